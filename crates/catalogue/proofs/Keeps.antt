-- After every arrival or leaving: the catalogue is built afresh of the pages that remain, nothing before the place was touched, and a
-- refused call changed nothing. Main statements: `accepted_kept`, `refused_kept`. Assumes nothing but what `Given` says.
use Prim.Native.Nat.{ℕ, ◌+◌, ◌-◌, ◌≤◌}
use mathlib.Core.Path.{◌≡◌, refl, sym, ap, ◌∙◌, subst}
use mathlib.Core.Bool.{Bool, true, false, ◌&&◌, not}
use mathlib.Core.List.{List, [], ◌∷◌, ◌++◌}
use native.Mathlib.Omega.{arith}
use lib.Dec.{leb, eqb}
use lib.ListN.{length, take, replicate}
use Rattle.std.proofs.lemmas.Bool.{not-true, not_from_false}
use borrow.Author.Tests.{le-leb, leb-true, eq-eqb, eqb-true, eqb-false}
use Rattle.field.specs.Bytes.{Bytes}
use Rattle.catalogue.specs.Page.{Page, Request, A13, A14, house_right, Given, Sound}
use Rattle.catalogue.specs.Catalogue.{most_bytes, row, forms_of, size, row_size, build, present, names_differ, AllSound, none_left, one_sound, Holds}
use Rattle.catalogue.specs.Shares.{Shares, shares_right, used, unused_of_others}
use Rattle.catalogue.specs.Calls.{Outcome, refused, remain, unless, room, call_right, arrival, without, before, leaving, Call, arrives, leaves, called, judged, outcome, number, left_by, answer, after_call, house_handed, Handed}
use Rattle.catalogue.specs.Words.{Kept}
use Rattle.catalogue.proofs.Tests.{and_left}
use Rattle.catalogue.proofs.Exact.{length_build, read_back}
use Rattle.catalogue.proofs.Lists.{row_append, take_row, size_append, sound_append, one_size, differ_last, Split, split_at_name, differ_without, sound_without}

-- ---- refused, or passed on

-- a test was met, and what stands behind it is the outcome
pub record Passed (t : Bool) (n : ℕ) (o : Outcome) : Type 0 where
  pub test : t ≡ true
  pub goes_on : number o ≡ 0
  pub is : unless t n o ≡ o

passed : (t : Bool) (n : ℕ) (o : Outcome) → (t ≡ false → n ≡ 0 → ⊥) → number (unless t n o) ≡ 0 → Passed t n o
unfolding unless number
passed true n o f e = record { test = refl; goes_on = e; is = refl }
passed false n o f e = absurd (f refl e)

-- a page was taken: every test was met
pub record Taken (G : Given) (n : ℕ) (s : Shares) (p : Page) (ps : List Page) : Type 0 where
  pub judged : G.format.judge p.body ≡ 0
  pub call_is_right : call_right G.format.request n s p ≡ true
  pub absent : present p.name ps ≡ false
  pub room_is : number (room G.format.request G.format n s p ps) ≡ 0
  pub is : arrival G.format n s p ps ≡ room G.format.request G.format n s p ps

pub taken : (G : Given) (n : ℕ) (s : Shares) (p : Page) (ps : List Page) → number (arrival G.format n s p ps) ≡ 0 → Taken G n s p ps
unfolding arrival
taken G n s p ps e =
    let j : ℕ = G.format.judge p.body in
    let o₃ : Outcome = room G.format.request G.format n s p ps in
    let o₂ : Outcome = unless (not (present p.name ps)) 21 o₃ in
    let o₁ : Outcome = unless (call_right G.format.request n s p) 26 o₂ in
    let w₁ = passed (eqb j 0) j o₁ (λ f g. eqb-false j 0 f g) e in
    let w₂ = passed (call_right G.format.request n s p) 26 o₂ (λ f g. omega arith) w₁.goes_on in
    let w₃ = passed (not (present p.name ps)) 21 o₃ (λ f g. omega arith) w₂.goes_on in
    record {
      judged = eqb-true j 0 w₁.test;
      call_is_right = w₂.test;
      absent = not-true (present p.name ps) w₃.test;
      room_is = w₃.goes_on;
      is = w₁.is ∙ w₂.is ∙ w₃.is;
    }

pub record Fits (G : Given) (n : ℕ) (p : Page) (ps : List Page) (o : Outcome) : Type 0 where
  pub within : row_size G.format ps + size G.format p ≤ n
  pub remain_is : o ≡ remain (ps ++ (p ∷ []))

room_fits : (q : Request) (G : Given) (n : ℕ) (s : Shares) (p : Page) (ps : List Page) → number (room q G.format n s p ps) ≡ 0 → Fits G n p ps (room q G.format n s p ps)
unfolding room
room_fits A13 G n s p ps e =
    let w = passed (leb (row_size G.format ps + size G.format p) n) 23 (remain (ps ++ (p ∷ []))) (λ f g. omega arith) e in
    record { within = leb-true (row_size G.format ps + size G.format p) n w.test; remain_is = w.is }
room_fits A14 G n s p ps e =
    let o₂ : Outcome = remain (ps ++ (p ∷ [])) in
    let o₁ : Outcome = unless (leb (row_size G.format ps + size G.format p + unused_of_others G.format s ps p.house) n) 25 o₂ in
    let w₁ = passed (leb (used G.format p.house ps + size G.format p) (s.most p.house)) 24 o₁ (λ f g. omega arith) e in
    let w₂ = passed (leb (row_size G.format ps + size G.format p + unused_of_others G.format s ps p.house) n) 25 o₂ (λ f g. omega arith) w₁.goes_on in
    let l : row_size G.format ps + size G.format p + unused_of_others G.format s ps p.house ≤ n = leb-true (row_size G.format ps + size G.format p + unused_of_others G.format s ps p.house) n w₂.test in
    record { within = omega arith; remain_is = w₁.is ∙ w₂.is }

-- what the two tests of A14 say of a page that passed both
pub covered : (G : Given) (n : ℕ) (s : Shares) (p : Page) (ps : List Page) → number (room A14 G.format n s p ps) ≡ 0
    → (used G.format p.house ps + size G.format p ≤ s.most p.house) × (row_size G.format ps + size G.format p + unused_of_others G.format s ps p.house ≤ n)
unfolding room
covered G n s p ps e =
    let o₂ : Outcome = remain (ps ++ (p ∷ [])) in
    let o₁ : Outcome = unless (leb (row_size G.format ps + size G.format p + unused_of_others G.format s ps p.house) n) 25 o₂ in
    let w₁ = passed (leb (used G.format p.house ps + size G.format p) (s.most p.house)) 24 o₁ (λ f g. omega arith) e in
    let w₂ = passed (leb (row_size G.format ps + size G.format p + unused_of_others G.format s ps p.house) n) 25 o₂ (λ f g. omega arith) w₁.goes_on in
    (leb-true (used G.format p.house ps + size G.format p) (s.most p.house) w₁.test, leb-true (row_size G.format ps + size G.format p + unused_of_others G.format s ps p.house) n w₂.test)

-- where every test before the room is met, the room decides
pub arrival_room : (G : Given) (n : ℕ) (s : Shares) (p : Page) (ps : List Page) → G.format.judge p.body ≡ 0 → call_right G.format.request n s p ≡ true → present p.name ps ≡ false
    → arrival G.format n s p ps ≡ room G.format.request G.format n s p ps
unfolding arrival unless
arrival_room G n s p ps j c a =
    let o₃ : Outcome = room G.format.request G.format n s p ps in
    let o₂ : Outcome = unless (not (present p.name ps)) 21 o₃ in
    let o₁ : Outcome = unless (call_right G.format.request n s p) 26 o₂ in
    ap (λ (t : Bool). unless t (G.format.judge p.body) o₁) (eq-eqb (G.format.judge p.body) 0 j)
    ∙ ap (λ (t : Bool). unless t 26 o₂) c
    ∙ ap (λ (t : Bool). unless t 21 o₃) (not_from_false (present p.name ps) a)

pub room_met : (G : Given) (n : ℕ) (s : Shares) (p : Page) (ps : List Page) → used G.format p.house ps + size G.format p ≤ s.most p.house
    → row_size G.format ps + size G.format p + unused_of_others G.format s ps p.house ≤ n → room A14 G.format n s p ps ≡ remain (ps ++ (p ∷ []))
unfolding room unless
room_met G n s p ps l m =
    let o₂ : Outcome = remain (ps ++ (p ∷ [])) in
    let o₁ : Outcome = unless (leb (row_size G.format ps + size G.format p + unused_of_others G.format s ps p.house) n) 25 o₂ in
    ap (λ (t : Bool). unless t 24 o₁) (le-leb (used G.format p.house ps + size G.format p) (s.most p.house) l)
    ∙ ap (λ (t : Bool). unless t 25 o₂) (le-leb (row_size G.format ps + size G.format p + unused_of_others G.format s ps p.house) n m)

-- ---- the outcome at bytes that hold pages

pub outcome_held : (G : Given) (s : Shares) (c : Call) (b : Bytes) (ps : List Page) → Holds G.format b ps → outcome G.format s c b ≡ called G.format (length b) s c ps
unfolding outcome judged
outcome_held G s c b ps h = ap (judged G.format (length b) s c) (read_back G b ps h)

-- ---- a page more, a page less

-- a catalogue of n bytes built of pages that fit
pub build_holds : (G : Given) (n : ℕ) (ps : List Page) → n ≤ most_bytes → AllSound G.format ps → names_differ ps ≡ true → row_size G.format ps ≤ n → Holds G.format (build G.format n ps) ps
build_holds G n ps l a d f =
    let e : length (build G.format n ps) ≡ n = length_build G n ps f in
    record { short = omega arith; all_sound = a; differ = d; fits = omega arith; is_built = ap (λ (k : ℕ). build G.format k ps) (sym e) }

house_of : (q : Request) (n : ℕ) (s : Shares) (p : Page) → call_right q n s p ≡ true → house_handed q p.house → house_right q p.house ≡ true
house_of A13 n s p e h = eq-eqb p.house 0 h
house_of A14 n s p e h = and_left (leb 1 p.house && leb p.house 16) (shares_right n s) e

-- the bytes of the pages in front are the same, whatever pages and bytes follow
front_alone : (G : Given) (n : ℕ) (ps qs : List Page) (y : Bytes) → take (row_size G.format ps) (row G.format n (ps ++ qs) y) ≡ row G.format n ps []
front_alone G n ps qs y = ap (take (row_size G.format ps)) (row_append G n ps qs y) ∙ take_row G n ps (row G.format (n + forms_of G.format ps) qs y)

module _ (G : Given) (s : Shares) (b : Bytes) (ps : List Page) (h : Holds G.format b ps) where
  arrived : (p : Page) → Handed G.format (arrives p) → number (arrival G.format (length b) s p ps) ≡ 0 → Holds G.format (build G.format (length b) (ps ++ (p ∷ []))) (ps ++ (p ∷ []))
  arrived p k e =
      let t = taken G (length b) s p ps e in
      let f = room_fits G.format.request G (length b) s p ps t.room_is in
      let z : Sound G.format p = record { four_bytes = k.0; of_bytes = k.1; house_is = house_of G.format.request (length b) s p t.call_is_right k.2; judged = t.judged } in
      let w = f.within in
      build_holds G (length b) (ps ++ (p ∷ [])) h.short (sound_append G ps (p ∷ []) h.all_sound (one_sound z none_left)) (differ_last ps p h.differ t.absent)
      (omega (arith, size_append G ps (p ∷ []), one_size G p))

  arrival_is : (p : Page) → number (arrival G.format (length b) s p ps) ≡ 0 → arrival G.format (length b) s p ps ≡ remain (ps ++ (p ∷ []))
  arrival_is p e = let t = taken G (length b) s p ps e in t.is ∙ (room_fits G.format.request G (length b) s p ps t.room_is).remain_is

  kept_arrival : (p : Page) → Handed G.format (arrives p) → number (arrival G.format (length b) s p ps) ≡ 0 → Kept G.format (arrives p) b ps (build G.format (length b) (ps ++ (p ∷ [])))
  unfolding build
  kept_arrival p k e =
      let w = arrived p k e in
      let b₁ : Bytes = build G.format (length b) (ps ++ (p ∷ [])) in
      let t = taken G (length b) s p ps e in
      let f = room_fits G.format.request G (length b) s p ps t.room_is in
      record {
        built_afresh = refl;
        holds_them = w;
        untouched_before = front_alone G 0 ps (p ∷ []) (replicate (length b - row_size G.format (ps ++ (p ∷ []))) 0) ∙ sym (take_row G 0 ps (replicate (length b - row_size G.format ps) 0)) ∙ ap (take (row_size G.format ps)) (sym h.is_built);
        length_kept = length_build G (length b) (ps ++ (p ∷ [])) (omega (arith, size_append G ps (p ∷ []), one_size G p, f.within));
      }

  -- a page was there, and left
  pub was_there : (x : ℕ) → number (leaving x ps) ≡ 0 → Passed (present x ps) 22 (remain (without x ps))
  unfolding leaving
  was_there x e = passed (present x ps) 22 (remain (without x ps)) (λ f g. omega arith) e

  pub size_less : (x : ℕ) (d : Split x ps) → row_size G.format (without x ps) + size G.format d.gone ≡ row_size G.format ps
  unfolding row_size
  size_less x d =
      let e : row_size G.format (without x ps) ≡ row_size G.format (before x ps) + row_size G.format d.later = ap (row_size G.format) d.rest_is ∙ size_append G (before x ps) d.later in
      let f : row_size G.format ps ≡ row_size G.format (before x ps) + (size G.format d.gone + row_size G.format d.later) = ap (row_size G.format) d.all_is ∙ size_append G (before x ps) (d.gone ∷ d.later) in
      omega arith

  kept_leaving : (x : ℕ) → number (leaving x ps) ≡ 0 → Kept G.format (leaves x) b ps (build G.format (length b) (without x ps))
  unfolding build
  kept_leaving x e =
      let d = split_at_name x ps (was_there x e).test in
      let l : row_size G.format (without x ps) ≤ length b = omega (arith, size_less x d, h.fits) in
      let y : Bytes = replicate (length b - row_size G.format (without x ps)) 0 in
      let z : Bytes = replicate (length b - row_size G.format ps) 0 in
      record {
        built_afresh = refl;
        holds_them = build_holds G (length b) (without x ps) h.short (sound_without G x ps h.all_sound) (differ_without x ps h.differ) l;
        untouched_before =
            ap (λ (q : List Page). take (row_size G.format (before x ps)) (row G.format 0 q y)) d.rest_is
            ∙ front_alone G 0 (before x ps) d.later y
            ∙ sym (front_alone G 0 (before x ps) (d.gone ∷ d.later) z)
            ∙ ap (λ (q : List Page). take (row_size G.format (before x ps)) (row G.format 0 q z)) (sym d.all_is)
            ∙ ap (take (row_size G.format (before x ps))) (sym h.is_built);
        length_kept = length_build G (length b) (without x ps) l;
      }

  kept_called : (c : Call) → Handed G.format c → number (called G.format (length b) s c ps) ≡ 0 → Kept G.format c b ps (left_by G.format b (called G.format (length b) s c ps))
  unfolding called left_by leaving
  kept_called (arrives p) k e = subst (λ (o : Outcome). Kept G.format (arrives p) b ps (left_by G.format b o)) (sym (arrival_is p e)) (kept_arrival p k e)
  kept_called (leaves x) k e = subst (λ (o : Outcome). Kept G.format (leaves x) b ps (left_by G.format b o)) (sym (was_there x e).is) (kept_leaving x e)

  -- A13: what a call that is taken leaves, whether a page arrives or one leaves and the later ones close up
  pub accepted_kept : (c : Call) → Handed G.format c → answer G.format s c b ≡ 0 → Kept G.format c b ps (after_call G.format s c b)
  accepted_kept c k e =
      let o : outcome G.format s c b ≡ called G.format (length b) s c ps = outcome_held G s c b ps h in
      subst (λ (o : Outcome). Kept G.format c b ps (left_by G.format b o)) (sym o) (kept_called c k (ap number (sym o) ∙ e))

-- A13: what a call that is refused leaves
pub refused_kept : (G : Given) (s : Shares) (c : Call) (b : Bytes) → (answer G.format s c b ≡ 0 → ⊥) → after_call G.format s c b ≡ b
unfolding number left_by
refused_kept G s c b f = on (outcome G.format s c b) f
  where
    on : (o : Outcome) → (number o ≡ 0 → ⊥) → left_by G.format b o ≡ b
    on (refused n) g = refl
    on (remain ps) g = absurd (g refl)
