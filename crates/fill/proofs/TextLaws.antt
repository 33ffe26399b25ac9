-- Texts as the code tests them. Main statements: `free_is`, `ascii_is`, `free_ends`, `escape_unmarked`, `room_at`, `escaped_block`. Assumes nothing.
use mathlib.Core.Path.{◌≡◌, refl, sym, ap, ◌∙◌}
use mathlib.Core.Bool.{Bool, true, false, ◌&&◌, not, and-eq-true_iff, false≢true}
use Prim.Native.Nat.{ℕ, ◌+◌, ◌-◌, ◌*◌, ◌≤◌, ◌<◌}
use native.Mathlib.Omega.{arith}
use mathlib.Core.List.{[], ◌∷◌, ◌++◌}
use lib.Dec.{eqb, ltb}
use lib.ListN.{length, take, drop, length-take}
use lib.Seq.{take-add}
use Rattle.field.specs.Bytes.{Bytes}
use Rattle.field.specs.Put.{Wrote}
use Rattle.field.proofs.PutLaws.{length_put}
use Rattle.utf8.specs.Utf8.{all_ascii}
use Rattle.text.specs.Escape.{escape_html}
use Rattle.text.specs.Runs.{plain, all}
use Rattle.text.proofs.RunLaws.{all_on, all_refused, all_last}
use Rattle.text.proofs.EscapeLaws.{escape_append, escape_plain_run, length_escape_html}
use Rattle.spec.specs.Words.{free}
use Rattle.fill.specs.Writing.{no_sign, unmarked}

and_and : (a b c : Bool) → ((a && b) && c) ≡ (a && (b && c))
and_and true b c = refl
and_and false b c = refl

pub free_is : (s : Bytes) → all no_sign s ≡ free s
unfolding all no_sign free
free_is [] = refl
free_is (c ∷ s) = rw (free_is s) (and_and (not (eqb c 60)) (not (eqb c 62)) (free s))

-- by its first bytes and its last ones
pub free_ends : (s : Bytes) → 8 ≤ length s → length s < 16 → (all no_sign (take 8 s) && all no_sign (take 8 (drop (length s - 8) s))) ≡ free s
free_ends s l k = on (all no_sign (take 8 s)) refl ∙ free_is s
  where
    on : (b : Bool) → all no_sign (take 8 s) ≡ b → (b && all no_sign (take 8 (drop (length s - 8) s))) ≡ all no_sign s
    on true a = all_last no_sign s 8 8 l l (omega (arith, l, k)) (all_on no_sign s 0 8 refl a)
    on false a = all_refused no_sign s 0 8 refl a

pub ascii_is : (s : Bytes) → all (λ b. ltb b 0x80) s ≡ all_ascii s
unfolding all all_ascii
ascii_is [] = refl
ascii_is (c ∷ s) = ap (λ (x : Bool). ltb c 0x80 && x) (ascii_is s)

-- ---- a text without a sign

unmarked_plain : (c : ℕ) → unmarked c ≡ true → plain c ≡ true
unfolding unmarked plain
unmarked_plain c e = on (eqb c 34) (eqb c 35) (eqb c 38) (eqb c 39) (eqb c 60) (eqb c 62) e
  where
    on : (a b d f g h : Bool) → (not a && not b && not d && not f && not g && not h) ≡ true → (not a && not d && not f && not g && not h) ≡ true
    on true b d f g h e = absurd (false≢true e)
    on false true d f g h e = absurd (false≢true e)
    on false false d f g h e = e

all_plain : (s : Bytes) → all unmarked s ≡ true → all plain s ≡ true
unfolding all
all_plain [] e = refl
all_plain (c ∷ s) e =
    let p = (and-eq-true_iff (unmarked c) (all unmarked s)).0 e in
    rw (unmarked_plain c p.0, all_plain s p.1)

-- its first bytes and its last ones are all of it
pub escape_unmarked : (s : Bytes) → 16 ≤ length s → length s < 32 → all unmarked (take 16 s) ≡ true → all unmarked (take 16 (drop (length s - 16) s)) ≡ true → escape_html s ≡ s
escape_unmarked s l k a b =
    let q : all unmarked (drop 16 s) ≡ all unmarked s = all_on unmarked s 0 16 refl a in
    escape_plain_run s (all_plain s (sym (all_last unmarked s 16 16 l l (omega (arith, l, k)) q) ∙ b))

-- ---- a text byte by byte

-- six bytes for each that is left
pub room_at : {o o' : Bytes} {at a : ℕ} (s : Bytes) (i k : ℕ) → Wrote o at (escape_html (take i s)) o' a → i + k ≤ length s → at + 6 * length s ≤ length o → a + 6 * k ≤ length o'
room_at {o} {o'} {at} {a} s i k w l h = omega (arith, w.end_is, length_escape_html (take i s), length-take i s, ap length w.out_is, length_put o at (escape_html (take i s)), l, h)

-- a block more
pub escaped_block : (s : Bytes) (i k e : ℕ) → i + k ≡ e → escape_html (take i s) ++ escape_html (take k (drop i s)) ≡ escape_html (take e s)
escaped_block s i k e q = rw (← q, take-add) (sym (escape_append (take i s) (take k (drop i s))))

-- and one that escaping leaves alone
pub block_alone : (b : Bytes) → all unmarked b ≡ true → escape_html b ≡ b
block_alone b a = escape_plain_run b (all_plain b a)
