-- UTF-8 stays UTF-8: lines of a text, a text without the white space at its ends, an escaped text. Main statements: `lines_text`,
-- `trim_start_stays`, `trim_end_stays`, `escape_text`. Assumes nothing.
use Prim.Native.Nat.{ℕ, ◌+◌, ◌-◌, ◌*◌, ◌/◌, ◌%◌, ◌≤◌, ◌<◌}
use native.Mathlib.Omega.{arith}
use mathlib.Core.Path.{◌≡◌, refl, sym, ap, ap₂, ◌∙◌, subst}
use mathlib.Core.Bool.{Bool, true, false, ◌&&◌, cond, and-eq-true_iff, false≢true}
use mathlib.Core.List.{List, [], ◌∷◌, ◌++◌, reverse, reverse-append}
use mathlib.Core.Option.{Option, none, some}
use lib.Dec.{leb, ltb, eqb}
use borrow.Author.Tests.{leb-true, ltb-true, ltb-false, lt-ltb, le-ltb, eqb-true, ne_eqb}
use Rattle.std.proofs.lemmas.Bool.{and_parts}
use Rattle.field.specs.Bytes.{Bytes, pick}
use Rattle.field.specs.Bytes as A
use Rattle.utf8.specs.Utf8.{Range, ◌to◌, within, tail, Form, ◌then◌, forms, begun, utf8_behind, utf8, all_ascii}
use Rattle.utf8.proofs.Laws.{utf8_append, utf8_cons, ascii_utf8}
use Rattle.text.specs.Lines.{starts_with_lf, onto_first, lines}
use Rattle.text.specs.Runs.{all}
use Rattle.text.specs.Trim.{trim_start, trim_end}
use Rattle.text.specs.Escape.{escape_byte, escape_html}
use Rattle.text.specs.WhiteSpace.{white_space, encode_utf8, encode_text, skip_white, skip_white_back}
use Rattle.text.proofs.EscapeLaws.{escape_other}
use Rattle.text.proofs.RunLaws.{all_append}
use Rattle.text.proofs.WhiteSpace.{trim_start_text, trim_end_text}

abbrev pub Text : Bytes → Type 0
Text b = utf8 b ≡ true

unfoldable pub AllText : List Bytes → Type 0
AllText [] = Unit {0}
AllText (l ∷ ls) = Text l × AllText ls

-- ---- behind its first byte a character has none below 80

unfoldable high : List Range → Bool
high [] = true
high (l to h ∷ rs) = leb 0x80 l && high rs

unfoldable all_high : List Form → Bool
all_high [] = true
all_high (r then rs ∷ fs) = high rs && all_high fs

begun_high : (b : ℕ) (fs : List Form) (rs : List Range) → all_high fs ≡ true → begun b fs ≡ some rs → high rs ≡ true
unfolding begun all_high
begun_high b [] rs h e = absurd (let z : ◌≡◌ {A = ℕ} 0 1 = cc in omega arith)
begun_high b (r then qs ∷ fs) rs h e =
    let p = and_parts (high qs) (all_high fs) h in
    on (within r b) p.0 (begun_high b fs rs p.1) e
  where
    on : (c : Bool) → high qs ≡ true → (begun b fs ≡ some rs → high rs ≡ true) → cond c (some qs) (begun b fs) ≡ some rs → high rs ≡ true
    on true p next k = let q : qs ≡ rs = cc in subst (λ (x : List Range). high x ≡ true) q p
    on false p next k = next k

forms_high : all_high forms ≡ true
unfolding all_high high forms
forms_high = refl

high_byte : (r : Range) (rs : List Range) (b : ℕ) → high (r ∷ rs) ≡ true → within r b ≡ true → (0x80 ≤ b) × (high rs ≡ true)
unfolding high
high_byte (l to h) rs b e w =
    let p = and_parts (leb 0x80 l) (high rs) e in
    let q = and_parts (leb l b) (leb b h) w in
    (omega (arith, leb-true 0x80 l p.0, leb-true l b q.0), p.1)

-- a character that begins with b
record Begun (b : ℕ) (bs : Bytes) : Type 0 where
  rest : List Range
  begun_is : begun b forms ≡ some rest
  rest_high : high rest ≡ true
  behind : utf8_behind rest bs ≡ true

begins : (b : ℕ) (bs : Bytes) → utf8_behind [] (b ∷ bs) ≡ true → Begun b bs
unfolding utf8_behind
begins b bs h = on (begun b forms) refl h
  where
    on : (o : Option (List Range)) → begun b forms ≡ o → elim o as (λ _. Bool) [ none ↦ false | some rs ↦ utf8_behind rs bs ] ≡ true → Begun b bs
    on none e k = absurd (false≢true k)
    on (some rs) e k = record { rest = rs; begun_is = e; rest_high = begun_high b forms rs forms_high e; behind = k }

goes_on : (b : ℕ) (rs : List Range) (bs : Bytes) → begun b forms ≡ some rs → utf8_behind rs bs ≡ true → utf8_behind [] (b ∷ bs) ≡ true
unfolding utf8_behind
goes_on b rs bs e h = rw (e, utf8_behind) h

-- ---- lines

-- the first line goes on a character, and the others are whole
unfoldable First : List Range → List Bytes → Type 0
First rs [] = utf8_behind rs [] ≡ true
First rs (l ∷ ls) = (utf8_behind rs l ≡ true) × AllText ls

first_all : (ls : List Bytes) → First [] ls → AllText ls
unfolding First AllText utf8
first_all [] h = tt
first_all (l ∷ ls) h = (h.0, h.1)

onto : (b : ℕ) (rs qs : List Range) (ls : List Bytes) → ((l : Bytes) → utf8_behind qs l ≡ true → utf8_behind rs (b ∷ l) ≡ true) → First qs ls → First rs (onto_first b ls)
unfolding First AllText
onto b rs qs [] f h = (f [] h, tt)
onto b rs qs (l ∷ ls) f h = (f l h.0, h.1)

low_tail : (b : ℕ) (bs : Bytes) → b < 0x80 → utf8_behind [] (b ∷ bs) ≡ true → utf8_behind [] bs ≡ true
unfolding utf8
low_tail b bs l h = sym (utf8_cons b bs l) ∙ h

-- a line end, or a byte of the first line
line_begins : (b : ℕ) (bs : Bytes) (p : Begun b bs) → utf8_behind [] (b ∷ bs) ≡ true → (utf8_behind [] bs ≡ true → First [] (lines bs)) → First p.rest (lines bs) → First [] (lines (b ∷ bs))
unfolding lines First utf8_behind
line_begins b bs p h whole rest = on (eqb b 10) refl (eqb b 13 && starts_with_lf bs) refl
  where
    on : (lf : Bool) → eqb b 10 ≡ lf → (cr : Bool) → (eqb b 13 && starts_with_lf bs) ≡ cr → First [] (pick lf ([] ∷ lines bs) (pick cr (lines bs) (onto_first b (lines bs))))
    on true q cr c = (refl, first_all (lines bs) (whole (low_tail b bs (omega (arith, eqb-true b 10 q)) h)))
    on false q true c = whole (low_tail b bs (omega (arith, eqb-true b 13 (and_parts (eqb b 13) (starts_with_lf bs) c).0)) h)
    on false q false c = onto b [] p.rest (lines bs) (λ l k. goes_on b p.rest l p.begun_is k) rest

line_goes_on : (r : Range) (rs : List Range) (b : ℕ) (bs : Bytes) → high (r ∷ rs) ≡ true → utf8_behind (r ∷ rs) (b ∷ bs) ≡ true → (high rs ≡ true → utf8_behind rs bs ≡ true → First rs (lines bs)) → First (r ∷ rs) (lines (b ∷ bs))
unfolding lines utf8_behind
line_goes_on r rs b bs e h next =
    let w = and_parts (within r b) (utf8_behind rs bs) h in
    let k = high_byte r rs b e w.0 in
    rw (ne_eqb b 10 (λ q. omega (arith, k.0)), ne_eqb b 13 (λ q. omega (arith, k.0)))
    (onto b (r ∷ rs) rs (lines bs) (λ l g. rw (w.0) g) (next k.1 w.1))

lines_on : (rs : List Range) (t : Bytes) → high rs ≡ true → utf8_behind rs t ≡ true → First rs (lines t)
unfolding lines First high
lines_on rs [] e h = h
lines_on [] (b ∷ bs) e h =
    let p = begins b bs h in
    line_begins b bs p h (λ k. lines_on [] bs refl k) (lines_on p.rest bs p.rest_high p.behind)
lines_on (r ∷ rs) (b ∷ bs) e h = line_goes_on r rs b bs e h (lines_on rs bs)

pub lines_text : (t : Bytes) → Text t → AllText (lines t)
unfolding utf8 high
lines_text t h = first_all (lines t) (lines_on [] t refl h)

-- ---- escapes

escape_ascii : (c : ℕ) → c < 0x80 → Text (escape_byte c)
unfolding escape_byte
escape_ascii c l = on (eqb c 38) (eqb c 60) (eqb c 62) (eqb c 39) (eqb c 34)
  where
    on : (amp less greater apos quot : Bool) → Text (pick amp (A.ascii "&amp;") (pick less (A.ascii "&lt;") (pick greater (A.ascii "&gt;") (pick apos (A.ascii "&#39;") (pick quot (A.ascii "&quot;") (c ∷ []))))))
    on true less greater apos quot = ascii_utf8 (A.ascii "&amp;") (unfold all_ascii in refl)
    on false true greater apos quot = ascii_utf8 (A.ascii "&lt;") (unfold all_ascii in refl)
    on false false true apos quot = ascii_utf8 (A.ascii "&gt;") (unfold all_ascii in refl)
    on false false false true quot = ascii_utf8 (A.ascii "&#39;") (unfold all_ascii in refl)
    on false false false false true = ascii_utf8 (A.ascii "&quot;") (unfold all_ascii in refl)
    on false false false false false = utf8_cons c [] l ∙ (unfold utf8 utf8_behind in refl)

escape_high : (c : ℕ) → 0x80 ≤ c → escape_byte c ≡ c ∷ []
escape_high c h = escape_other c (ne_eqb c 38 (λ q. omega arith)) (ne_eqb c 60 (λ q. omega arith)) (ne_eqb c 62 (λ q. omega arith)) (ne_eqb c 39 (λ q. omega arith)) (ne_eqb c 34 (λ q. omega arith))

escape_begins : (b : ℕ) (bs : Bytes) (p : Begun b bs) → utf8_behind [] (b ∷ bs) ≡ true → (utf8_behind [] bs ≡ true → utf8_behind [] (escape_html bs) ≡ true) → utf8_behind p.rest (escape_html bs) ≡ true → (low : Bool) → ltb b 0x80 ≡ low → utf8_behind [] (escape_html (b ∷ bs)) ≡ true
unfolding escape_html utf8
escape_begins b bs p h whole rest true q =
    let l : b < 0x80 = ltb-true b 0x80 q in
    utf8_append (escape_byte b) (escape_html bs) (escape_ascii b l) ∙ whole (low_tail b bs l h)
escape_begins b bs p h whole rest false q =
    subst (λ (x : Bytes). utf8_behind [] (x ++ escape_html bs) ≡ true) (sym (escape_high b (ltb-false b 0x80 q))) (goes_on b p.rest (escape_html bs) p.begun_is rest)

escape_goes_on : (r : Range) (rs : List Range) (b : ℕ) (bs : Bytes) → high (r ∷ rs) ≡ true → utf8_behind (r ∷ rs) (b ∷ bs) ≡ true → (high rs ≡ true → utf8_behind rs bs ≡ true → utf8_behind rs (escape_html bs) ≡ true) → utf8_behind (r ∷ rs) (escape_html (b ∷ bs)) ≡ true
unfolding escape_html utf8_behind
escape_goes_on r rs b bs e h next =
    let w = and_parts (within r b) (utf8_behind rs bs) h in
    let k = high_byte r rs b e w.0 in
    subst (λ (x : Bytes). utf8_behind (r ∷ rs) (x ++ escape_html bs) ≡ true) (sym (escape_high b k.0)) (rw (w.0) (next k.1 w.1))

escape_on : (rs : List Range) (t : Bytes) → high rs ≡ true → utf8_behind rs t ≡ true → utf8_behind rs (escape_html t) ≡ true
unfolding escape_html high
escape_on rs [] e h = h
escape_on [] (b ∷ bs) e h =
    let p = begins b bs h in
    escape_begins b bs p h (λ k. escape_on [] bs refl k) (escape_on p.rest bs p.rest_high p.behind) (ltb b 0x80) refl
escape_on (r ∷ rs) (b ∷ bs) e h = escape_goes_on r rs b bs e h (escape_on rs bs)

pub escape_text : (t : Bytes) → Text t → Text (escape_html t)
unfolding utf8 high
escape_text t h = escape_on [] t refl h

-- ---- a text as characters

unfoldable fits : List Range → Bytes → Bool
fits [] [] = true
fits [] (b ∷ bs) = false
fits (r ∷ rs) [] = false
fits (r ∷ rs) (b ∷ bs) = within r b && fits rs bs

fits_behind : (rs : List Range) (bs : Bytes) → fits rs bs ≡ true → utf8_behind rs bs ≡ true
unfolding fits utf8_behind
fits_behind [] [] h = refl
fits_behind [] (b ∷ bs) h = absurd (false≢true h)
fits_behind (r ∷ rs) [] h = absurd (false≢true h)
fits_behind (r ∷ rs) (b ∷ bs) h = let p = and_parts (within r b) (fits rs bs) h in rw (p.0) (fits_behind rs bs p.1)

-- the code point of a first byte and those behind it
record Coded (b : ℕ) (bs : Bytes) : Type 0 where
  point : ℕ
  coded : encode_utf8 point ≡ b ∷ bs

coded_by : (c b : ℕ) (bs : Bytes) → encode_utf8 c ≡ b ∷ bs → Coded b bs
coded_by c b bs e = record { point = c; coded = e }

one_coded : (b : ℕ) → b < 0x80 → encode_utf8 b ≡ b ∷ []
unfolding encode_utf8
one_coded b h = rw (lt-ltb b 0x80 h)

two_coded : (c b d : ℕ) → b ≡ 0xc0 + c / 64 → d ≡ 0x80 + c % 64 → 0x80 ≤ c → c < 0x800 → encode_utf8 c ≡ b ∷ d ∷ []
unfolding encode_utf8
two_coded c b d p q l h = rw (le-ltb c 0x80 l, lt-ltb c 0x800 h) (ap₂ (λ (x y : ℕ). x ∷ y ∷ []) (sym p) (sym q))

three_coded : (c b d e : ℕ) → b ≡ 0xe0 + c / 4096 → d ≡ 0x80 + c / 64 % 64 → e ≡ 0x80 + c % 64 → 0x800 ≤ c → c < 0x10000 → encode_utf8 c ≡ b ∷ d ∷ e ∷ []
unfolding encode_utf8
three_coded c b d e p q r l h =
    rw (le-ltb c 0x80 (omega arith), le-ltb c 0x800 l, lt-ltb c 0x10000 h) (ap₂ (λ (x y : ℕ). x ∷ y ∷ (0x80 + c % 64) ∷ []) (sym p) (sym q) ∙ ap (λ (z : ℕ). b ∷ d ∷ z ∷ []) (sym r))

four_coded : (c b d e f : ℕ) → b ≡ 0xf0 + c / 262144 → d ≡ 0x80 + c / 4096 % 64 → e ≡ 0x80 + c / 64 % 64 → f ≡ 0x80 + c % 64 → 0x10000 ≤ c → encode_utf8 c ≡ b ∷ d ∷ e ∷ f ∷ []
unfolding encode_utf8
four_coded c b d e f p q r s l =
    rw (le-ltb c 0x80 (omega arith), le-ltb c 0x800 (omega arith), le-ltb c 0x10000 l)
    (ap₂ (λ (x y : ℕ). x ∷ y ∷ (0x80 + c / 64 % 64) ∷ (0x80 + c % 64) ∷ []) (sym p) (sym q) ∙ ap₂ (λ (x y : ℕ). b ∷ d ∷ x ∷ y ∷ []) (sym r) (sym s))

two_parts : (b d : ℕ) → 0xc2 ≤ b → b ≤ 0xdf → 0x80 ≤ d → d ≤ 0xbf → Coded b (d ∷ [])
two_parts b d l h p q = let c : ℕ = (b - 0xc0) * 64 + (d - 0x80) in coded_by c b (d ∷ []) (two_coded c b d (omega arith) (omega arith) (omega arith) (omega arith))

three_parts : (b d e : ℕ) → 0xe0 ≤ b → b ≤ 0xef → 0x80 ≤ d → d ≤ 0xbf → 0x80 ≤ e → e ≤ 0xbf → 0xa0 + 0xe0 * 64 ≤ b * 64 + d → Coded b (d ∷ e ∷ [])
three_parts b d e l h p q r s k =
    let c : ℕ = (b - 0xe0) * 4096 + (d - 0x80) * 64 + (e - 0x80) in
    coded_by c b (d ∷ e ∷ []) (three_coded c b d e (omega arith) (omega arith) (omega arith) (omega arith) (omega arith))

four_parts : (b d e f : ℕ) → 0xf0 ≤ b → b ≤ 0xf4 → 0x80 ≤ d → d ≤ 0xbf → 0x80 ≤ e → e ≤ 0xbf → 0x80 ≤ f → f ≤ 0xbf → 0x90 + 0xf0 * 64 ≤ b * 64 + d → Coded b (d ∷ e ∷ f ∷ [])
four_parts b d e f l h p q r s u v k =
    let c : ℕ = (b - 0xf0) * 262144 + (d - 0x80) * 4096 + (e - 0x80) * 64 + (f - 0x80) in
    coded_by c b (d ∷ e ∷ f ∷ []) (four_coded c b d e f (omega arith) (omega arith) (omega arith) (omega arith) (omega arith))

form_case : {C : Type 0} (b l h : ℕ) (qs : List Range) (fs : List Form) (rs : List Range) → begun b (l to h then qs ∷ fs) ≡ some rs → (l ≤ b → b ≤ h → qs ≡ rs → C) → (begun b fs ≡ some rs → C) → C
unfolding begun
form_case {C} b l h qs fs rs e f g = on (within (l to h) b) refl e
  where
    on : (c : Bool) → within (l to h) b ≡ c → cond c (some qs) (begun b fs) ≡ some rs → C
    on true w k = let p = and_parts (leb l b) (leb b h) w in f (leb-true l b p.0) (leb-true b h p.1) (cc)
    on false w k = g k

none_left : (bs : Bytes) → fits [] bs ≡ true → bs ≡ []
unfolding fits
none_left [] h = refl
none_left (b ∷ bs) h = absurd (false≢true h)

one_left : {C : Type 0} (l h : ℕ) (rs : List Range) (bs : Bytes) → fits (l to h ∷ rs) bs ≡ true → ((d : ℕ) (ds : Bytes) → bs ≡ d ∷ ds → l ≤ d → d ≤ h → fits rs ds ≡ true → C) → C
unfolding fits
one_left l h rs [] e f = absurd (false≢true e)
one_left l h rs (d ∷ ds) e f = let p = and_parts (within (l to h) d) (fits rs ds) e in let q = and_parts (leb l d) (leb d h) p.0 in f d ds refl (leb-true l d q.0) (leb-true d h q.1) p.1

two_form : (b l h : ℕ) (bs : Bytes) → 0x80 ≤ l → h ≤ 0xbf → 0xc2 ≤ b → b ≤ 0xdf → fits (l to h ∷ []) bs ≡ true → Coded b bs
two_form b l h bs x y p q k = one_left l h [] bs k λ d ds e u v k. subst (Coded b) (sym (e ∙ ap (λ (z : Bytes). d ∷ z) (none_left ds k))) (two_parts b d p q (omega arith) (omega arith))

three_form : (b l h : ℕ) (bs : Bytes) → 0x80 ≤ l → h ≤ 0xbf → 0xe0 ≤ b → b ≤ 0xef → 0xa0 + 0xe0 * 64 ≤ b * 64 + l → fits (l to h ∷ tail ∷ []) bs ≡ true → Coded b bs
three_form b l h bs x y p q m k =
    one_left l h (tail ∷ []) bs k λ d ds e u v k.
    one_left 0x80 0xbf [] ds k λ d' ds' e' u' v' k.
    subst (Coded b) (sym (e ∙ ap (λ (z : Bytes). d ∷ z) (e' ∙ ap (λ (z : Bytes). d' ∷ z) (none_left ds' k)))) (three_parts b d d' p q (omega arith) (omega arith) u' v' (omega arith))

four_form : (b l h : ℕ) (bs : Bytes) → 0x80 ≤ l → h ≤ 0xbf → 0xf0 ≤ b → b ≤ 0xf4 → 0x90 + 0xf0 * 64 ≤ b * 64 + l → fits (l to h ∷ tail ∷ tail ∷ []) bs ≡ true → Coded b bs
four_form b l h bs x y p q m k =
    one_left l h (tail ∷ tail ∷ []) bs k λ d ds e u v k.
    one_left 0x80 0xbf (tail ∷ []) ds k λ d' ds' e' u' v' k.
    one_left 0x80 0xbf [] ds' k λ d'' ds'' e'' u'' v'' k.
    subst (Coded b) (sym (e ∙ ap (λ (z : Bytes). d ∷ z) (e' ∙ ap (λ (z : Bytes). d' ∷ z) (e'' ∙ ap (λ (z : Bytes). d'' ∷ z) (none_left ds'' k)))))
    (four_parts b d d' d'' p q (omega arith) (omega arith) u' v' u'' v'' (omega arith))

-- the nine forms
coded : (b : ℕ) (rs : List Range) (bs : Bytes) → begun b forms ≡ some rs → fits rs bs ≡ true → Coded b bs
unfolding forms
coded b rs bs e h =
    form_case b 0x00 0x7f [] _ rs e (λ l u q. coded_by b b bs (one_coded b (omega arith) ∙ ap (λ (z : Bytes). b ∷ z) (sym (none_left bs (was q))))) λ e.
    form_case b 0xc2 0xdf (tail ∷ []) _ rs e (λ l u q. two_form b 0x80 0xbf bs (omega arith) (omega arith) l u (was q)) λ e.
    form_case b 0xe0 0xe0 (0xa0 to 0xbf ∷ tail ∷ []) _ rs e (λ l u q. three_form b 0xa0 0xbf bs (omega arith) (omega arith) l (omega arith) (omega arith) (was q)) λ e.
    form_case b 0xe1 0xec (tail ∷ tail ∷ []) _ rs e (λ l u q. three_form b 0x80 0xbf bs (omega arith) (omega arith) (omega arith) (omega arith) (omega arith) (was q)) λ e.
    form_case b 0xed 0xed (0x80 to 0x9f ∷ tail ∷ []) _ rs e (λ l u q. three_form b 0x80 0x9f bs (omega arith) (omega arith) (omega arith) (omega arith) (omega arith) (was q)) λ e.
    form_case b 0xee 0xef (tail ∷ tail ∷ []) _ rs e (λ l u q. three_form b 0x80 0xbf bs (omega arith) (omega arith) (omega arith) (omega arith) (omega arith) (was q)) λ e.
    form_case b 0xf0 0xf0 (0x90 to 0xbf ∷ tail ∷ tail ∷ []) _ rs e (λ l u q. four_form b 0x90 0xbf bs (omega arith) (omega arith) l (omega arith) (omega arith) (was q)) λ e.
    form_case b 0xf1 0xf3 (tail ∷ tail ∷ tail ∷ []) _ rs e (λ l u q. four_form b 0x80 0xbf bs (omega arith) (omega arith) (omega arith) (omega arith) (omega arith) (was q)) λ e.
    form_case b 0xf4 0xf4 (0x80 to 0x8f ∷ tail ∷ tail ∷ []) _ rs e (λ l u q. four_form b 0x80 0x8f bs (omega arith) (omega arith) (omega arith) (omega arith) (omega arith) (was q)) λ e.
    no_form e
  where
    was : {qs : List Range} → qs ≡ rs → fits qs bs ≡ true
    was q = ap (λ (x : List Range). fits x bs) q ∙ h

    no_form : begun b [] ≡ some rs → Coded b bs
    no_form e = absurd (let k : none ≡ some rs = (unfold begun in e) in let z : ◌≡◌ {A = ℕ} 0 1 = cc in omega arith)

-- a character by itself
abbrev whole : ℕ → Bool
whole c = utf8 (encode_utf8 c)

record Decoded (rs : List Range) (t : Bytes) : Type 0 where
  head : Bytes
  points : List ℕ
  text_is : t ≡ head ++ encode_text points
  head_fits : fits rs head ≡ true
  all_whole : all whole points ≡ true

decode_begins : (b : ℕ) (bs : Bytes) (p : Begun b bs) → Decoded p.rest bs → Decoded [] (b ∷ bs)
unfolding fits all encode_text utf8
decode_begins b bs p d =
    let c = coded b p.rest d.head p.begun_is d.head_fits in
    let w : whole c.point ≡ true = ap utf8 c.coded ∙ goes_on b p.rest d.head p.begun_is (fits_behind p.rest d.head d.head_fits) in
    record {
      head = [];
      points = c.point ∷ d.points;
      text_is = ap (λ (x : Bytes). b ∷ x) d.text_is ∙ ap (λ (x : Bytes). x ++ encode_text d.points) (sym c.coded);
      head_fits = refl;
      all_whole = rw w d.all_whole;
    }

decode : (rs : List Range) (t : Bytes) → utf8_behind rs t ≡ true → Decoded rs t
unfolding utf8_behind fits all encode_text
decode [] [] h = record { head = []; points = []; text_is = refl; head_fits = refl; all_whole = refl }
decode (r ∷ rs) [] h = absurd (false≢true h)
decode [] (b ∷ bs) h = let p = begins b bs h in decode_begins b bs p (decode p.rest bs p.behind)
decode (r ∷ rs) (b ∷ bs) h =
    let w = and_parts (within r b) (utf8_behind rs bs) h in
    let d = decode rs bs w.1 in
    record { head = b ∷ d.head; points = d.points; text_is = ap (λ (x : Bytes). b ∷ x) d.text_is; head_fits = ap₂ (λ (x y : Bool). x && y) w.0 d.head_fits; all_whole = d.all_whole }

-- ---- trimmed

whole_text : (cs : List ℕ) → all whole cs ≡ true → Text (encode_text cs)
unfolding all encode_text utf8
whole_text [] h = unfold utf8_behind in refl
whole_text (c ∷ cs) h = let p = and_parts (whole c) (all whole cs) h in utf8_append (encode_utf8 c) (encode_text cs) p.0 ∙ whole_text cs p.1

skip_whole : (cs : List ℕ) → all whole cs ≡ true → all whole (skip_white cs) ≡ true
unfolding all skip_white
skip_whole [] h = refl
skip_whole (c ∷ cs) h = on (white_space c) (skip_whole cs (and_parts (whole c) (all whole cs) h).1)
  where
    on : (b : Bool) → all whole (skip_white cs) ≡ true → all whole (pick b (skip_white cs) (c ∷ cs)) ≡ true
    on true k = k
    on false k = h

reverse_whole : (cs : List ℕ) → all whole cs ≡ true → all whole (reverse cs) ≡ true
unfolding all
reverse_whole [] h = refl
reverse_whole (c ∷ cs) h =
    let p = and_parts (whole c) (all whole cs) h in
    let one : all whole (c ∷ []) ≡ true = rw (p.0) refl in
    ap (all whole) (reverse-append (c ∷ []) cs) ∙ all_append whole (reverse cs) (c ∷ []) ∙ ap₂ (λ (a b : Bool). a && b) (reverse_whole cs p.1) one

pub trim_start_stays : (t : Bytes) → Text t → Text (trim_start t)
unfolding utf8 fits
trim_start_stays t h =
    let d = decode [] t h in
    let e : t ≡ encode_text d.points = d.text_is ∙ ap (λ (x : Bytes). x ++ encode_text d.points) (none_left d.head d.head_fits) in
    ap (λ (x : Bytes). utf8 (trim_start x)) e ∙ ap utf8 (trim_start_text d.points) ∙ whole_text (skip_white d.points) (skip_whole d.points d.all_whole)

pub trim_end_stays : (t : Bytes) → Text t → Text (trim_end t)
unfolding utf8 fits skip_white_back
trim_end_stays t h =
    let d = decode [] t h in
    let e : t ≡ encode_text d.points = d.text_is ∙ ap (λ (x : Bytes). x ++ encode_text d.points) (none_left d.head d.head_fits) in
    ap (λ (x : Bytes). utf8 (trim_end x)) e ∙ ap utf8 (trim_end_text d.points)
    ∙ whole_text (skip_white_back d.points) (reverse_whole (skip_white (reverse d.points)) (skip_whole (reverse d.points) (reverse_whole d.points d.all_whole)))
