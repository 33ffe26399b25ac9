-- Arrivals and leavings: the number of each call, in the order of the refusals, and the bytes that it leaves. Assumes nothing: these are definitions.
use Rattle.std.specs.Prelude.{ℕ, ◌+◌, ◌^◌, ◌<◌, ◌≡◌, Bool, true, false, ◌&&◌, not, List, [], ◌∷◌, ◌++◌, leb, eqb, length}
use Rattle.field.specs.Bytes.{Bytes, pick}
use Rattle.catalogue.specs.Page.{Page, IsBytes, Request, A13, A14, Format}
use Rattle.catalogue.specs.Catalogue.{Reading, no_row, pages, read_catalogue, build, row_size, size, present}
use Rattle.catalogue.specs.Shares.{Shares, shares_right, used, unused_of_others}

pub data Outcome : Type 0 where
  refused : ℕ → Outcome
  remain : List Page → Outcome  -- the pages that remain, in order of arrival

unfoldable pub unless : Bool → ℕ → Outcome → Outcome
unless true n o = o
unless false n o = refused n

-- A13: 23 for a page that has no room. A14 asks twice instead: 24 if its house would have more than it may, and then 25 if too little stays free
-- for what the other houses are sure of and have not used
unfoldable pub room : Request → Format → ℕ → Shares → Page → List Page → Outcome
room A13 F n s p ps = unless (leb (row_size F ps + size F p) n) 23 (remain (ps ++ (p ∷ [])))
room A14 F n s p ps =
    unless (leb (used F p.house ps + size F p) (s.most p.house)) 24
    (unless (leb (row_size F ps + size F p + unused_of_others F s ps p.house) n) 25
    (remain (ps ++ (p ∷ []))))

-- A14: what comes with the page, its house and the shares; 26 where it is wrong, which is looked at before the name (21)
abbrev pub call_right : Request → ℕ → Shares → Page → Bool
call_right A13 n s p = true
call_right A14 n s p = (leb 1 p.house && leb p.house 16) && shares_right n s

-- a page arrives at a catalogue of n bytes that holds ps
unfoldable pub arrival : Format → ℕ → Shares → Page → List Page → Outcome
arrival F n s p ps =
    unless (eqb (F.judge p.body) 0) (F.judge p.body)
    (unless (call_right F.request n s p) 26
    (unless (not (present p.name ps)) 21
    (room F.request F n s p ps)))

-- the pages without the one of this name, later pages closed up
unfoldable pub without : ℕ → List Page → List Page
without x [] = []
without x (p ∷ ps) = pick (eqb x p.name) ps (p ∷ without x ps)

-- the pages before the one of this name
unfoldable pub before : ℕ → List Page → List Page
before x [] = []
before x (p ∷ ps) = pick (eqb x p.name) [] (p ∷ before x ps)

unfoldable pub leaving : ℕ → List Page → Outcome
leaving x ps = unless (present x ps) 22 (remain (without x ps))

pub data Call : Type 0 where
  arrives : Page → Call
  leaves : ℕ → Call  -- by its name

unfoldable pub called : Format → ℕ → Shares → Call → List Page → Outcome
called F n s (arrives p) ps = arrival F n s p ps
called F n s (leaves x) ps = leaving x ps

-- A13: to every call, 4 where there is no catalogue
unfoldable pub judged : Format → ℕ → Shares → Call → Reading → Outcome
judged F n s c no_row = refused 4
judged F n s c (pages ps) = called F n s c ps

unfoldable pub outcome : Format → Shares → Call → Bytes → Outcome
outcome F s c b = judged F (length b) s c (read_catalogue F b)

unfoldable pub number : Outcome → ℕ
number (refused n) = n
number (remain ps) = 0

-- A13: every byte as it was where the call is refused, else all as if built anew of the pages that remain
unfoldable pub left_by : Format → Bytes → Outcome → Bytes
left_by F b (refused n) = b
left_by F b (remain ps) = build F (length b) ps

-- the bytes of the pages and their count after the call; zeros when refused
unfoldable pub used_after : Format → Outcome → ℕ
used_after F (refused n) = 0
used_after F (remain ps) = row_size F ps

unfoldable pub pages_after : Outcome → ℕ
pages_after (refused n) = 0
pages_after (remain ps) = length ps

-- ---- the two answers of a call: the number, and every byte of the catalogue

abbrev pub answer : Format → Shares → Call → Bytes → ℕ
answer F s c b = number (outcome F s c b)

abbrev pub after_call : Format → Shares → Call → Bytes → Bytes
after_call F s c b = left_by F b (outcome F s c b)

-- one call after the other, under the same shares
unfoldable pub after_calls : Format → Shares → List Call → Bytes → Bytes
after_calls F s [] b = b
after_calls F s (c ∷ cs) b = after_calls F s cs (after_call F s c b)

-- the pages that a catalogue holds
unfoldable pub listed : Reading → List Page
listed no_row = []
listed (pages ps) = ps

abbrev pub pages_of : Format → Bytes → List Page
pages_of F b = listed (read_catalogue F b)

-- what a host can hand over: a name of four bytes, a body of bytes, and under A13 no house
abbrev pub house_handed : Request → ℕ → Type 0
house_handed A13 h = h ≡ 0
house_handed A14 h = Unit {0}

abbrev pub Handed : Format → Call → Type 0
Handed F (arrives p) = (p.name < 2 ^ 32) × IsBytes p.body × house_handed F.request p.house
Handed F (leaves x) = Unit {0}

abbrev pub AllHanded : Format → List Call → Type 0
AllHanded F [] = Unit {0}
AllHanded F (c ∷ cs) = Handed F c × AllHanded F cs
