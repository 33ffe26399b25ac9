-- Laws of escape_html: it is 000's five replacements, goes byte by byte, leaves plain bytes alone, and writes neither `<` nor `>`.
-- Main statements: `five_replacements`, `escape_append`, `escape_plain_run`, `is_escaped_by_run`, `length_escape_html`, `no_signs`,
-- `escape_all_bytes`, `null_escape_html`.
-- Assumes nothing.
use mathlib.Core.Path.{◌≡◌, refl, sym, ap, ◌∙◌, subst⁻¹}
use mathlib.Core.Bool.{Bool, true, false, ◌&&◌, not, false≢true, true≢false}
use Prim.Native.Nat.{ℕ, suc, ◌+◌, ◌-◌, ◌*◌, ◌≤◌, ◌<◌}
use native.Mathlib.Nat.{le_of_suc-le-suc, not-suc-le-zero}
use native.Mathlib.Numerals.{add-one}
use native.Mathlib.Omega.{arith}
use mathlib.Core.List.{[], ◌∷◌, ◌++◌, append_assoc, append-nil}
use lib.Dec.{eqb, ltb, eqb-suc-suc, eqb-zero-suc, lit<, lit≤}
use lib.ListN.{length, get_or, take, drop, length-append, length-drop, take-append-drop}
use lib.Seq.{take-suc, take-add, take_all}
use borrow.Author.Tests.{eq-eqb, eqb-true, ltb-true}
use Rattle.field.specs.Bytes.{Bytes, AllBytes, ascii, pick, null?, same}
use Rattle.text.specs.Escape.{escape_byte, escape_html, replace}
use Rattle.text.specs.Runs.{run, all, plain}
use Rattle.text.proofs.RunLaws.{run_all, all_append, run_is_all}

-- ---- byte by byte: the five signs, and any other byte

-- what holds of one number and of every other one
known : (c k : ℕ) (P : ℕ → Type 0) → P k → (eqb c k ≡ false → P c) → P c
known c k P here other = on (eqb c k) refl
  where
    on : (b : Bool) → eqb c k ≡ b → P c
    on true e = subst⁻¹ P (eqb-true c k e) here
    on false e = other e

-- what holds of the five signs, and of a byte that is none of them
each_byte : (P : ℕ → Type 0) → P 38 → P 60 → P 62 → P 39 → P 34 → ((c : ℕ) → eqb c 38 ≡ false → eqb c 60 ≡ false → eqb c 62 ≡ false → eqb c 39 ≡ false → eqb c 34 ≡ false → P c) → (c : ℕ) → P c
each_byte P amp lt gt apos quot other c =
    known c 38 P amp λ e₁. known c 60 P lt λ e₂. known c 62 P gt λ e₃. known c 39 P apos λ e₄. known c 34 P quot λ e₅. other c e₁ e₂ e₃ e₄ e₅

pub escape_other : (c : ℕ) → eqb c 38 ≡ false → eqb c 60 ≡ false → eqb c 62 ≡ false → eqb c 39 ≡ false → eqb c 34 ≡ false → escape_byte c ≡ c ∷ []
unfolding escape_byte
escape_other c e₁ e₂ e₃ e₄ e₅ = rw (e₁, e₂, e₃, e₄, e₅)

plain_other : (c : ℕ) → eqb c 38 ≡ false → eqb c 60 ≡ false → eqb c 62 ≡ false → eqb c 39 ≡ false → eqb c 34 ≡ false → plain c ≡ true
unfolding plain
plain_other c e₁ e₂ e₃ e₄ e₅ = rw (e₁, e₂, e₃, e₄, e₅)

-- a plain byte stays
pub escape_plain : (c : ℕ) → plain c ≡ true → escape_byte c ≡ c ∷ []
unfolding plain escape_byte
escape_plain = each_byte (λ c. plain c ≡ true → escape_byte c ≡ c ∷ []) no no no no no (λ c e₁ e₂ e₃ e₄ e₅ h. escape_other c e₁ e₂ e₃ e₄ e₅)
  where
    no : {c : ℕ} {w : Bytes} → false ≡ true → w ≡ c ∷ []
    no h = absurd (false≢true h)

-- any other becomes longer
longer_byte : (c : ℕ) → plain c ≡ false → 1 < length (escape_byte c)
unfolding plain escape_byte
longer_byte = each_byte (λ c. plain c ≡ false → 1 < length (escape_byte c)) (λ h. lit< tt) (λ h. lit< tt) (λ h. lit< tt) (λ h. lit< tt) (λ h. lit< tt) (λ c e₁ e₂ e₃ e₄ e₅ h. absurd (true≢false (sym (plain_other c e₁ e₂ e₃ e₄ e₅) ∙ h)))

byte_le : (c : ℕ) → length (escape_byte c) ≤ 6
unfolding escape_byte
byte_le = each_byte (λ c. length (escape_byte c) ≤ 6) (lit≤ tt) (lit≤ tt) (lit≤ tt) (lit≤ tt) (lit≤ tt) (λ c e₁ e₂ e₃ e₄ e₅. rw (escape_other c e₁ e₂ e₃ e₄ e₅) (lit≤ tt))

byte_pos : (c : ℕ) → 0 < length (escape_byte c)
unfolding escape_byte
byte_pos = each_byte (λ c. 0 < length (escape_byte c)) (lit< tt) (lit< tt) (lit< tt) (lit< tt) (lit< tt) (λ c e₁ e₂ e₃ e₄ e₅. rw (escape_other c e₁ e₂ e₃ e₄ e₅) (lit< tt))

-- ---- texts

pub escape_append : (a b : Bytes) → escape_html (a ++ b) ≡ escape_html a ++ escape_html b
unfolding escape_html
escape_append [] b = refl
escape_append (c ∷ a) b = rw (escape_append a b) (sym (append_assoc (escape_byte c) (escape_html a) (escape_html b)))

pub escape_one : (c : ℕ) → escape_html (c ∷ []) ≡ escape_byte c
unfolding escape_html
escape_one c = append-nil (escape_byte c)

pub escape_plain_run : (t : Bytes) → all plain t ≡ true → escape_html t ≡ t
unfolding all escape_html
escape_plain_run [] h = refl
escape_plain_run (c ∷ cs) h = on (plain c) refl h (escape_plain_run cs)
  where
    on : (b : Bool) → plain c ≡ b → (b && all plain cs) ≡ true → (all plain cs ≡ true → escape_html cs ≡ cs) → escape_byte c ++ escape_html cs ≡ c ∷ cs
    on true e q f = rw (escape_plain c e, f q)
    on false e q f = absurd (false≢true q)

-- at most six bytes for one
pub length_escape_html : (s : Bytes) → length (escape_html s) ≤ 6 * length s
unfolding escape_html
length_escape_html [] = omega arith
length_escape_html (c ∷ cs) = omega (arith, length-append (escape_byte c) (escape_html cs), byte_le c, length_escape_html cs)

pub escape_longer : (s : Bytes) → length s ≤ length (escape_html s)
unfolding escape_html
escape_longer [] = omega arith
escape_longer (c ∷ cs) = omega (arith, length-append (escape_byte c) (escape_html cs), byte_pos c, escape_longer cs)

null_append : (a b : Bytes) → 0 < length a → null? (a ++ b) ≡ false
null_append [] b h = absurd (not-suc-le-zero h)
null_append (x ∷ a) b h = refl

pub null_escape_html : (s : Bytes) → null? (escape_html s) ≡ null? s
unfolding escape_html
null_escape_html [] = refl
null_escape_html (c ∷ cs) = null_append (escape_byte c) (escape_html cs) (byte_pos c)

-- ---- 000 replaces one sign after the other, `&` first

replace_append : (k : ℕ) (w a b : Bytes) → replace k w (a ++ b) ≡ replace k w a ++ replace k w b
unfolding replace
replace_append k w [] b = refl
replace_append k w (c ∷ a) b = rw (replace_append k w a b) (sym (append_assoc (pick (eqb c k) w (c ∷ [])) (replace k w a) (replace k w b)))

abbrev five : Bytes → Bytes
five s = replace 34 (ascii "&quot;") (replace 39 (ascii "&#39;") (replace 62 (ascii "&gt;") (replace 60 (ascii "&lt;") (replace 38 (ascii "&amp;") s))))

five_append : (a b : Bytes) → five (a ++ b) ≡ five a ++ five b
five_append a b = simp replace_append

five_byte : (c : ℕ) → five (c ∷ []) ≡ escape_byte c
unfolding replace escape_byte
five_byte = each_byte (λ c. five (c ∷ []) ≡ escape_byte c) refl refl refl refl refl (λ c e₁ e₂ e₃ e₄ e₅. simp (e₁, e₂, e₃, e₄, e₅))

five_cons : (c : ℕ) (s : Bytes) → five (c ∷ s) ≡ escape_byte c ++ five s
five_cons c s = five_append (c ∷ []) s ∙ ap {B = Bytes} (λ w. w ++ five s) (five_byte c)

pub five_replacements : (s : Bytes) → replace 34 (ascii "&quot;") (replace 39 (ascii "&#39;") (replace 62 (ascii "&gt;") (replace 60 (ascii "&lt;") (replace 38 (ascii "&amp;") s)))) ≡ escape_html s
unfolding replace escape_html
five_replacements [] = refl
five_replacements (c ∷ cs) = five_cons c cs ∙ ap {B = Bytes} (λ w. escape_byte c ++ w) (five_replacements cs)

-- ---- a text that escaping leaves alone

same_longer : (s t : Bytes) → length s < length t → same s t ≡ false
unfolding same
same_longer [] [] h = absurd (not-suc-le-zero h)
same_longer [] (d ∷ t) h = refl
same_longer (c ∷ s) [] h = refl
same_longer (c ∷ s) (d ∷ t) h = on (eqb c d) (same_longer s t (le_of_suc-le-suc h))
  where
    on : (b : Bool) → same s t ≡ false → (b && same s t) ≡ false
    on true e = e
    on false e = refl

-- the run of plain bytes in front is the whole text
pub is_escaped_by_run : (s : Bytes) → eqb (run plain s) (length s) ≡ same s (escape_html s)
unfolding run escape_html same
is_escaped_by_run [] = refl
is_escaped_by_run (c ∷ cs) = on (plain c) refl (is_escaped_by_run cs)
  where
    on : (b : Bool) → plain c ≡ b → eqb (run plain cs) (length cs) ≡ same cs (escape_html cs) → eqb (pick b (suc (run plain cs)) 0) (suc (length cs)) ≡ same (c ∷ cs) (escape_byte c ++ escape_html cs)
    on true e ih = rw (escape_plain c e, eq-eqb c c refl, eqb-suc-suc, ih)
    on false e ih =
        let l : length (c ∷ cs) < length (escape_byte c ++ escape_html cs) = omega (arith, length-append (escape_byte c) (escape_html cs), longer_byte c e, escape_longer cs) in
        eqb-zero-suc (length cs) ∙ sym (same_longer (c ∷ cs) (escape_byte c ++ escape_html cs) l)

pub is_escaped_by_all : (s : Bytes) → all plain s ≡ same s (escape_html s)
is_escaped_by_all s = sym (run_is_all plain s) ∙ is_escaped_by_run s

-- ---- neither `<` nor `>` is written

abbrev pub no_sign : ℕ → Bool
no_sign c = not (eqb c 60) && not (eqb c 62)

byte_no_signs : (c : ℕ) → all no_sign (escape_byte c) ≡ true
unfolding all escape_byte
byte_no_signs = each_byte (λ c. all no_sign (escape_byte c) ≡ true) refl refl refl refl refl (λ c e₁ e₂ e₃ e₄ e₅. rw (escape_other c e₁ e₂ e₃ e₄ e₅) (rw (e₂, e₃)))

pub no_signs : (s : Bytes) → all no_sign (escape_html s) ≡ true
unfolding all escape_html
no_signs [] = refl
no_signs (c ∷ cs) = all_append no_sign (escape_byte c) (escape_html cs) ∙ rw (byte_no_signs c, no_signs cs)

-- ---- bytes stay bytes

pub all_bytes_append : (a b : Bytes) → AllBytes a → AllBytes b → AllBytes (a ++ b)
unfolding AllBytes
all_bytes_append [] b ha hb = hb
all_bytes_append (c ∷ a) b ha hb = (ha.0, all_bytes_append a b ha.1 hb)

abbrev below_256 : ℕ → Bool
below_256 c = ltb c 256

all_bytes_of : (t : Bytes) → all below_256 t ≡ true → AllBytes t
unfolding all AllBytes
all_bytes_of [] h = tt
all_bytes_of (c ∷ cs) h = on (ltb c 256) refl h (all_bytes_of cs)
  where
    on : (b : Bool) → ltb c 256 ≡ b → (b && all below_256 cs) ≡ true → (all below_256 cs ≡ true → AllBytes cs) → (c < 256) × AllBytes cs
    on true e q f = (ltb-true c 256 e, f q)
    on false e q f = absurd (false≢true q)

byte_all_bytes : (c : ℕ) → c < 256 → AllBytes (escape_byte c)
unfolding AllBytes all escape_byte
byte_all_bytes =
    each_byte (λ c. c < 256 → AllBytes (escape_byte c))
    (λ h. all_bytes_of (ascii "&amp;") refl)
    (λ h. all_bytes_of (ascii "&lt;") refl)
    (λ h. all_bytes_of (ascii "&gt;") refl)
    (λ h. all_bytes_of (ascii "&#39;") refl)
    (λ h. all_bytes_of (ascii "&quot;") refl)
    (λ c e₁ e₂ e₃ e₄ e₅ h. rw (escape_other c e₁ e₂ e₃ e₄ e₅) (h, tt))

pub escape_all_bytes : (s : Bytes) → AllBytes s → AllBytes (escape_html s)
unfolding AllBytes escape_html
escape_all_bytes [] h = tt
escape_all_bytes (c ∷ cs) h = all_bytes_append (escape_byte c) (escape_html cs) (byte_all_bytes c h.0) (escape_all_bytes cs h.1)

-- ---- the loop of `put_escaped`: i bytes are written, and go on

pub escaped_run : (s : Bytes) (i e : ℕ) → e ≡ i + run plain (drop i s) → escape_html (take i s) ++ take (e - i) (drop i s) ≡ escape_html (take e s)
escaped_run s i e h =
    let d : e - i ≡ run plain (drop i s) = omega arith in
    let t = take (run plain (drop i s)) (drop i s) in
    let p = escape_plain_run t (run_all plain (drop i s)) in
    rw (d, h, take-add) (sym (escape_append (take i s) t ∙ ap {B = Bytes} (λ w. escape_html (take i s) ++ w) p))

pub escaped_sign : (s : Bytes) (i : ℕ) → i < length s → escape_html (take i s) ++ escape_byte (get_or s i 0) ≡ escape_html (take (i + 1) s)
escaped_sign s i h = rw (add-one, take-suc s i 0) (sym (escape_append (take i s) (get_or s i 0 ∷ []) ∙ ap {B = Bytes} (λ w. escape_html (take i s) ++ w) (escape_one (get_or s i 0))))

-- what is written so far is no longer than the whole
pub escaped_le : (s : Bytes) (i : ℕ) → length (escape_html (take i s)) ≤ length (escape_html s)
escaped_le s i =
    let whole = ap (λ (t : Bytes). length (escape_html t)) (take-append-drop i s) in
    let parts = ap (λ (t : Bytes). length t) (escape_append (take i s) (drop i s)) in
    omega (arith, length-append (escape_html (take i s)) (escape_html (drop i s)))

-- ---- the loop of `put_short_escaped`: a plain byte, and all that is left

pub escaped_plain : (s : Bytes) (i : ℕ) → i < length s → plain (get_or s i 0) ≡ true → escape_html (take i s) ++ (get_or s i 0 ∷ []) ≡ escape_html (take (i + 1) s)
escaped_plain s i h e = ap {B = Bytes} (λ w. escape_html (take i s) ++ w) (sym (escape_plain (get_or s i 0) e)) ∙ escaped_sign s i h

pub escaped_rest : (s : Bytes) (i : ℕ) → i ≤ length s → escape_html (take i s) ++ escape_html (take (length s - i) (drop i s)) ≡ escape_html s
escaped_rest s i h =
    let all_left = take_all (length s - i) (drop i s) (rw length-drop (omega arith)) in
    rw all_left (sym (escape_append (take i s) (drop i s)) ∙ ap {B = Bytes} escape_html (take-append-drop i s))
