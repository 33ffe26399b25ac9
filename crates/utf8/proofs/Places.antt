-- The lists that the parts of is_utf8 leave. Assumes nothing.
use mathlib.Core.Path.{◌≡◌, refl, sym, ap, ◌∙◌}
use Prim.Native.Nat.{ℕ, zero, suc, ◌+◌, ◌-◌, ◌≤◌, ◌<◌}
use native.Mathlib.Omega.{arith}
use native.Mathlib.Nat.{not-suc-le-zero, le_of_suc-le-suc}
use mathlib.Core.Bool.{Bool, true, false, ◌&&◌, and-false, and-eq-true_iff, false≢true}
use mathlib.Core.Option.{none, some}
use Rattle.std.specs.Prelude.{Option, Some, None, MatchOption}
use mathlib.Core.List.{List, [], ◌∷◌, ◌++◌}
use borrow.Author.Tests.{lt-ltb, le-leb}
use lib.ListN.{length, get_or, take, drop, replicate, length-append, take-append-drop}
use lib.Seq.{drop-drop, take_all}
use Rattle.std.specs.List.{list_all}
use Rattle.std.proofs.Common.{append_assoc, append-nil}
use Rattle.utf8.specs.Utf8.{Range, ◌to◌, within, tail, forms, utf8_behind, utf8, all_ascii}
use Rattle.utf8.specs.Parts.{Skips, Leaves, Passes, Lacks}
use Rattle.utf8.proofs.Forms.{whole, begun_by, goes_on, utf8_begun}
use Rattle.utf8.proofs.Laws.{utf8_append, ascii_utf8}
use Rattle.utf8.proofs.Words.{ascii_append, ascii_drop}

-- ---- behind ASCII

pub skips_none : (s : List ℕ) → Skips s s
unfolding all_ascii
skips_none s = record { front = []; plain = refl; is = refl }

pub skips_on : {s t r : List ℕ} → Skips s t → Skips t r → Skips s r
skips_on {s} {t} {r} p q =
    record {
      front = p.front ++ q.front;
      plain = ascii_append p.front q.front ∙ rw (p.plain, q.plain) refl;
      is = p.is ∙ ap (λ (x : List ℕ). p.front ++ x) q.is ∙ sym (append_assoc p.front q.front r);
    }

pub skips_byte : {s t : List ℕ} {b : ℕ} → s ≡ b ∷ t → b < 0x80 → Skips s t
unfolding all_ascii
skips_byte {s} {t} {b} e h = record { front = b ∷ []; plain = rw (lt-ltb b 0x80 h) refl; is = e }

pub skips_first : (s : List ℕ) → 1 ≤ length s → get_or s 0 0 < 0x80 → Skips s (take (length s - 1) (drop 1 s))
skips_first [] l h = absurd (not-suc-le-zero l)
skips_first (b ∷ t) l h = skips_byte (ap (λ (x : List ℕ). b ∷ x) (sym (take_all (length (b ∷ t) - 1) t (omega arith)))) h

pub skips_block : (n : ℕ) {s b t : List ℕ} → b ≡ take n s → t ≡ drop n s → all_ascii b ≡ true → Skips s t
skips_block n {s} {b} {t} e f h = record { front = b; plain = h; is = sym (ap (λ (x : List ℕ). x ++ t) e ∙ ap (λ (x : List ℕ). take n s ++ x) f ∙ take-append-drop n s) }

-- a word, and blocks behind it
pub skips_blocks : {s w m t r : List ℕ} → w ≡ take 8 s → m ≡ drop 8 s → all_ascii w ≡ true → Skips m t → Skips t r → Skips s r
skips_blocks e f h p q = skips_on (skips_on (skips_block 8 e f h) p) q

pub skips_same : {s t : List ℕ} → Skips s t → utf8 s ≡ utf8 t
skips_same {s} {t} p = ap utf8 p.is ∙ utf8_append p.front t (ascii_utf8 p.front p.plain)

drop_front : (a b : List ℕ) → drop (length a) (a ++ b) ≡ b
drop_front [] b = refl
drop_front (x ∷ a) b = drop_front a b

-- the last word, which may begin in front of t
pub skips_last : {s t w : List ℕ} → Skips s t → length t < 8 → 8 ≤ length s → w ≡ drop (length s - 8) s → all_ascii w ≡ true → Skips s []
skips_last {s} {t} {w} p h l e a =
    let m = length s - 8 in
    let n : length s ≡ length p.front + length t = ap length p.is ∙ length-append p.front t in
    let k : m + (length p.front - m) ≡ length p.front = omega arith in
    let rest : drop (length p.front - m) (drop m s) ≡ t = drop-drop (length p.front - m) m s ∙ ap (λ (x : ℕ). drop x s) k ∙ ap (λ (x : List ℕ). drop (length p.front) x) p.is ∙ drop_front p.front t in
    let plain : all_ascii t ≡ true = ap all_ascii (sym rest) ∙ ascii_drop (length p.front - m) (drop m s) (ap all_ascii (sym e) ∙ a) in
    skips_on p (record { front = t; plain = plain; is = sym (append-nil t) })

-- ---- behind ranges

abbrev pub Behind : {A : Type 0} → (A → List ℕ) → List Range → List ℕ → Option A → Type 0
Behind view rs s o = MatchOption o (Lacks rs s) (λ t. Passes rs s (view t))

module _ (low high : ℕ) (rs : List Range) where
  pub lacks_all : (s : List ℕ) → length s ≡ 0 → Lacks (low to high ∷ rs) s
  unfolding utf8_behind
  lacks_all [] n = record { refused = λ qs. refl }
  lacks_all (b ∷ s) n = absurd (omega arith)

  module _ (s t : List ℕ) (b : ℕ) (e : s ≡ b ∷ t) where
    pub lacks_first : within (low to high) b ≡ false → Lacks (low to high ∷ rs) s
    unfolding utf8_behind
    lacks_first h = record { refused = λ qs. ap (utf8_behind (low to high ∷ (rs ++ qs))) e ∙ ap (λ (v : Bool). v && utf8_behind (rs ++ qs) t) h }

    pub behind_first : {A : Type 0} (view : A → List ℕ) (o : Option A) → low ≤ b → b ≤ high → Behind view rs t o → Behind view (low to high ∷ rs) s o
    unfolding utf8_behind
    behind_first view None l h p = record { refused = λ qs. ap (utf8_behind (low to high ∷ (rs ++ qs))) e ∙ rw (le-leb low b l, le-leb b high h) (p.refused qs) }
    behind_first view (Some x) l h p =
        record {
          inside = omega (arith, p.inside, ap length e);
          same = λ qs. ap (utf8_behind (low to high ∷ (rs ++ qs))) e ∙ rw (le-leb low b l, le-leb b high h) (p.same qs);
        }

-- too few bytes for the tails; as many, all of which are tails, or not all
pub lacks_tails : (n : ℕ) (s : List ℕ) → length s < n → Lacks (replicate n tail) s
unfolding utf8_behind
lacks_tails zero s h = absurd (not-suc-le-zero h)
lacks_tails (suc n) [] h = record { refused = λ qs. refl }
lacks_tails (suc n) (b ∷ s) h = record { refused = λ qs. ap (λ (v : Bool). within tail b && v) ((lacks_tails n s (le_of_suc-le-suc h)).refused qs) ∙ and-false (within tail b) }

pub passes_tails : (n : ℕ) (s : List ℕ) → n ≤ length s → list_all (λ b. within tail b) (take n s) ≡ true → Passes (replicate n tail) s (drop n s)
unfolding utf8_behind
passes_tails zero s h e = record { inside = omega arith; same = λ qs. refl }
passes_tails (suc n) [] h e = absurd (not-suc-le-zero h)
passes_tails (suc n) (b ∷ s) h e =
    let p = (and-eq-true_iff (within tail b) (list_all (λ b. within tail b) (take n s))).0 e in
    let q = passes_tails n s (le_of_suc-le-suc h) p.1 in
    record { inside = omega (arith, q.inside); same = λ qs. ap (λ (v : Bool). v && utf8_behind (replicate n tail ++ qs) s) p.0 ∙ q.same qs }

pub lacks_one : (n : ℕ) (s : List ℕ) → n ≤ length s → list_all (λ b. within tail b) (take n s) ≡ false → Lacks (replicate n tail) s
unfolding utf8_behind
lacks_one zero s h e = absurd (false≢true (sym e))
lacks_one (suc n) [] h e = absurd (not-suc-le-zero h)
lacks_one (suc n) (b ∷ s) h e = on (within tail b) refl e (lacks_one n s (le_of_suc-le-suc h))
  where
    on : (v : Bool) → within tail b ≡ v → (v && list_all (λ b. within tail b) (take n s)) ≡ false → (list_all (λ b. within tail b) (take n s) ≡ false → Lacks (replicate n tail) s) → Lacks (replicate (suc n) tail) (b ∷ s)
    on true f g k = let q = k g in record { refused = λ qs. ap (λ (v : Bool). v && utf8_behind (replicate n tail ++ qs) s) f ∙ q.refused qs }
    on false f g k = record { refused = λ qs. ap (λ (v : Bool). v && utf8_behind (replicate n tail ++ qs) s) f }

-- ---- behind a character that begins with a byte from l to h

module _ (b : ℕ) (s : List ℕ) (l h : ℕ) (w : whole l h forms ≡ true) (low : l ≤ b) (high : b ≤ h) where
  pub refused : begun_by l h forms ≡ none → utf8 (b ∷ s) ≡ false
  refused e = utf8_begun b l h low high s w ∙ ap (goes_on s) e

  pub stays : begun_by l h forms ≡ some [] → Leaves (b ∷ s) s
  unfolding utf8
  stays e = record { shorter = omega arith; same = utf8_begun b l h low high s w ∙ ap (goes_on s) e }

  pub leaves : {A : Type 0} (view : A → List ℕ) (rs : List Range) (o : Option A) → begun_by l h forms ≡ some rs → Behind view rs s o → MatchOption o (utf8 (b ∷ s) ≡ false) (λ t. Leaves (b ∷ s) (view t))
  unfolding utf8
  leaves view rs None e p = utf8_begun b l h low high s w ∙ ap (goes_on s) e ∙ ap (λ (x : List Range). utf8_behind x s) (sym (append-nil rs)) ∙ p.refused []
  leaves view rs (Some x) e p =
      record {
        shorter = omega (arith, p.inside);
        same = utf8_begun b l h low high s w ∙ ap (goes_on s) e ∙ ap (λ (x : List Range). utf8_behind x s) (sym (append-nil rs)) ∙ p.same [];
      }

pub utf8_ends : (s : List ℕ) → length s < 1 → true ≡ utf8 s
unfolding utf8 utf8_behind
utf8_ends [] h = refl
utf8_ends (b ∷ s) h = absurd (omega arith)
