-- What callers may know of a text without computing it: how long it is at most, when it is empty, and that bytes stay bytes.
-- Main statements: `length_text`, `length_jsx_text`, `length_normalize`, `null_jsx_text`, `jsx_text_no_signs`, `jsx_text_all_bytes`,
-- `normalize_all_bytes`.
-- Assumes nothing.
use mathlib.Core.Path.{◌≡◌}
use mathlib.Core.Bool.{Bool, true, false, ◌&&◌, ◌||◌}
use Prim.Native.Nat.{ℕ, zero, suc, ◌*◌, ◌≤◌, ◌<◌}
use native.Mathlib.Omega.{arith}
use mathlib.Core.List.{List, [], ◌∷◌, ◌++◌, map, reverse, reverse_aux}
use lib.Dec.{eqb, lit<}
use lib.ListN.{length, length-append}
use Rattle.field.specs.Bytes.{Bytes, AllBytes, pick, null?}
use Rattle.text.specs.Escape.{escape_html}
use Rattle.text.specs.Lines.{starts_with_lf, onto_first, lines}
use Rattle.text.specs.Trim.{front_space, back_space, trim_by, trim_start, trim_end}
use Rattle.text.specs.Text.{trimmed, some_line, trimmed_lines, kept, spaced, joined, escape_if, jsx_text_to_str, normalize_lit_str}
use Rattle.text.specs.Runs.{all}
use Rattle.text.proofs.TrimLaws.{length_trim_start, length_trim_end}
use Rattle.text.proofs.EscapeLaws.{length_escape_html, null_escape_html, escape_all_bytes, all_bytes_append, no_sign, no_signs}

-- ---- lengths

spaced_joined : (ls : List Bytes) → (length (joined ls) ≤ length (spaced ls)) × (length (spaced ls) ≤ suc (length (joined ls)))
unfolding joined spaced
spaced_joined [] = (omega arith, omega arith)
spaced_joined (l ∷ ls) = (omega arith, omega arith)

onto_joined : (c : ℕ) (ls : List Bytes) → length (joined (onto_first c ls)) ≤ suc (length (joined ls))
unfolding joined spaced
onto_joined c [] = omega arith
onto_joined c (l ∷ ls) = omega arith

-- the space between two lines stands for the line's end
length_lines : (s : Bytes) → length (joined (lines s)) ≤ length s
unfolding lines joined
length_lines [] = omega arith
length_lines (c ∷ cs) = on (eqb c 10) (eqb c 13 && starts_with_lf cs) (length_lines cs)
  where
    on : (b d : Bool) → length (joined (lines cs)) ≤ length cs → length (joined (pick b ([] ∷ lines cs) (pick d (lines cs) (onto_first c (lines cs))))) ≤ suc (length cs)
    on true d h = omega (arith, spaced_joined (lines cs))
    on false true h = omega arith
    on false false h = omega (arith, onto_joined c (lines cs))

length_trimmed : (front back : Bool) (l : Bytes) → length (trimmed front back l) ≤ length l
unfolding trimmed
length_trimmed true true l = omega (arith, length_trim_end (trim_start l), length_trim_start l)
length_trimmed true false l = length_trim_start l
length_trimmed false true l = length_trim_end l
length_trimmed false false l = omega arith

spaced_trimmed : (front last : Bool) (ls : List Bytes) → length (spaced (trimmed_lines front last ls)) ≤ length (spaced ls)
unfolding trimmed_lines spaced
spaced_trimmed front last [] = omega arith
spaced_trimmed front last (l ∷ ls) =
    let t = trimmed front (some_line ls || last) l in
    omega (arith, length-append t (spaced (trimmed_lines true last ls)), length-append l (spaced ls), length_trimmed front (some_line ls || last) l, spaced_trimmed true last ls)

joined_trimmed : (front last : Bool) (ls : List Bytes) → length (joined (trimmed_lines front last ls)) ≤ length (joined ls)
unfolding trimmed_lines joined
joined_trimmed front last [] = omega arith
joined_trimmed front last (l ∷ ls) =
    let t = trimmed front (some_line ls || last) l in
    omega (arith, length-append t (spaced (trimmed_lines true last ls)), length-append l (spaced ls), length_trimmed front (some_line ls || last) l, spaced_trimmed true last ls)

spaced_kept : (ls : List Bytes) → length (spaced (kept ls)) ≤ length (spaced ls)
unfolding kept spaced
spaced_kept [] = omega arith
spaced_kept (l ∷ ls) = on (null? l) (spaced_kept ls)
  where
    on : (b : Bool) → length (spaced (kept ls)) ≤ length (spaced ls) → length (spaced (pick b (kept ls) (l ∷ kept ls))) ≤ suc (length (l ++ spaced ls))
    on true h = omega (arith, length-append l (spaced ls))
    on false h = omega (arith, length-append l (spaced ls), length-append l (spaced (kept ls)))

joined_kept : (ls : List Bytes) → length (joined (kept ls)) ≤ length (joined ls)
unfolding kept joined
joined_kept [] = omega arith
joined_kept (l ∷ ls) = on (null? l) (spaced_kept ls)
  where
    on : (b : Bool) → length (spaced (kept ls)) ≤ length (spaced ls) → length (joined (pick b (kept ls) (l ∷ kept ls))) ≤ length (l ++ spaced ls)
    on true h = omega (arith, length-append l (spaced ls), spaced_joined (kept ls))
    on false h = omega (arith, length-append l (spaced ls), length-append l (spaced (kept ls)))

-- the text rule makes nothing longer
pub length_text : (s : Bytes) (last : Bool) → length (jsx_text_to_str s false last) ≤ length s
unfolding jsx_text_to_str escape_if
length_text s last =
    let ls = trimmed_lines false last (lines s) in
    omega (arith, joined_kept ls, joined_trimmed false last (lines s), length_lines s)

pub length_jsx_text : (s : Bytes) (escape last : Bool) → length (jsx_text_to_str s escape last) ≤ 6 * length s
unfolding jsx_text_to_str escape_if
length_jsx_text s true last =
    let text = joined (kept (trimmed_lines false last (lines s))) in
    omega (arith, length_escape_html text, length_text s last)
length_jsx_text s false last = omega (arith, length_text s last)

spaced_fronts : (ls : List Bytes) → length (spaced (map trim_start ls)) ≤ length (spaced ls)
unfolding spaced
spaced_fronts [] = omega arith
spaced_fronts (l ∷ ls) = omega (arith, length-append (trim_start l) (spaced (map trim_start ls)), length-append l (spaced ls), length_trim_start l, spaced_fronts ls)

joined_fronts : (ls : List Bytes) → length (joined (map trim_start ls)) ≤ length (joined ls)
unfolding joined
joined_fronts [] = omega arith
joined_fronts (l ∷ ls) = omega (arith, length-append (trim_start l) (spaced (map trim_start ls)), length-append l (spaced ls), length_trim_start l, spaced_fronts ls)

pub length_normalize : (s : Bytes) → length (normalize_lit_str s) ≤ length s
unfolding normalize_lit_str
length_normalize s = omega (arith, joined_fronts (lines s), length_lines s)

-- ---- empty or not, and signs

-- escaping does not decide whether a text is dropped
pub null_jsx_text : (s : Bytes) (last : Bool) → null? (jsx_text_to_str s true last) ≡ null? (jsx_text_to_str s false last)
unfolding jsx_text_to_str escape_if
null_jsx_text s last = null_escape_html (joined (kept (trimmed_lines false last (lines s))))

pub jsx_text_no_signs : (s : Bytes) (last : Bool) → all no_sign (jsx_text_to_str s true last) ≡ true
unfolding jsx_text_to_str escape_if
jsx_text_no_signs s last = no_signs (joined (kept (trimmed_lines false last (lines s))))

-- ---- bytes stay bytes

AllLines : List Bytes → Type 0
AllLines [] = Unit {0}
AllLines (l ∷ ls) = AllBytes l × AllLines ls

all_trim_by : (space : Bytes → ℕ) (k : ℕ) (t : Bytes) → AllBytes t → AllBytes (trim_by space k t)
unfolding trim_by AllBytes
all_trim_by space zero [] h = tt
all_trim_by space (suc k) [] h = tt
all_trim_by space (suc k) (c ∷ cs) h = all_trim_by space k cs h.1
all_trim_by space zero (c ∷ cs) h = on (space (c ∷ cs)) (λ k. all_trim_by space k cs h.1)
  where
    on : (n : ℕ) → ((k : ℕ) → AllBytes (trim_by space k cs)) → AllBytes (elim n [ zero ↦ c ∷ cs | suc k ↦ trim_by space k cs ])
    on zero f = h
    on (suc k) f = f k

all_reverse_aux : (a b : Bytes) → AllBytes a → AllBytes b → AllBytes (reverse_aux a b)
unfolding AllBytes
all_reverse_aux [] b ha hb = hb
all_reverse_aux (c ∷ a) b ha hb = all_reverse_aux a (c ∷ b) ha.1 (ha.0, hb)

all_trim_start : (t : Bytes) → AllBytes t → AllBytes (trim_start t)
unfolding trim_start
all_trim_start t h = all_trim_by front_space 0 t h

all_trim_end : (t : Bytes) → AllBytes t → AllBytes (trim_end t)
unfolding trim_end AllBytes
all_trim_end t h = all_reverse_aux (trim_by back_space 0 (reverse t)) [] (all_trim_by back_space 0 (reverse t) (all_reverse_aux t [] h tt)) tt

all_trimmed : (front back : Bool) (t : Bytes) → AllBytes t → AllBytes (trimmed front back t)
unfolding trimmed
all_trimmed true true t h = all_trim_end (trim_start t) (all_trim_start t h)
all_trimmed true false t h = all_trim_start t h
all_trimmed false true t h = all_trim_end t h
all_trimmed false false t h = h

all_onto : (c : ℕ) (ls : List Bytes) → c < 256 → AllLines ls → AllLines (onto_first c ls)
unfolding AllLines AllBytes
all_onto c [] h hs = ((h, tt), tt)
all_onto c (l ∷ ls) h hs = ((h, hs.0), hs.1)

all_lines : (s : Bytes) → AllBytes s → AllLines (lines s)
unfolding lines AllLines AllBytes
all_lines [] h = tt
all_lines (c ∷ cs) h = on (eqb c 10) (eqb c 13 && starts_with_lf cs) (all_lines cs h.1)
  where
    on : (b d : Bool) → AllLines (lines cs) → AllLines (pick b ([] ∷ lines cs) (pick d (lines cs) (onto_first c (lines cs))))
    on true d q = (tt, q)
    on false true q = q
    on false false q = all_onto c (lines cs) h.0 q

all_trimmed_lines : (front last : Bool) (ls : List Bytes) → AllLines ls → AllLines (trimmed_lines front last ls)
unfolding trimmed_lines AllLines
all_trimmed_lines front last [] h = tt
all_trimmed_lines front last (l ∷ ls) h = (all_trimmed front (some_line ls || last) l h.0, all_trimmed_lines true last ls h.1)

all_kept : (ls : List Bytes) → AllLines ls → AllLines (kept ls)
unfolding kept AllLines
all_kept [] h = tt
all_kept (l ∷ ls) h = on (null? l) (all_kept ls h.1)
  where
    on : (b : Bool) → AllLines (kept ls) → AllLines (pick b (kept ls) (l ∷ kept ls))
    on true q = q
    on false q = (h.0, q)

all_fronts : (ls : List Bytes) → AllLines ls → AllLines (map trim_start ls)
unfolding AllLines
all_fronts [] h = tt
all_fronts (l ∷ ls) h = (all_trim_start l h.0, all_fronts ls h.1)

all_spaced : (ls : List Bytes) → AllLines ls → AllBytes (spaced ls)
unfolding spaced AllLines AllBytes
all_spaced [] h = tt
all_spaced (l ∷ ls) h = (lit< tt, all_bytes_append l (spaced ls) h.0 (all_spaced ls h.1))

all_joined : (ls : List Bytes) → AllLines ls → AllBytes (joined ls)
unfolding joined AllLines AllBytes
all_joined [] h = tt
all_joined (l ∷ ls) h = all_bytes_append l (spaced ls) h.0 (all_spaced ls h.1)

pub jsx_text_all_bytes : (s : Bytes) (escape last : Bool) → AllBytes s → AllBytes (jsx_text_to_str s escape last)
unfolding jsx_text_to_str escape_if
jsx_text_all_bytes s escape last h =
    let ls = trimmed_lines false last (lines s) in
    on escape (joined (kept ls)) (all_joined (kept ls) (all_kept ls (all_trimmed_lines false last (lines s) (all_lines s h))))
  where
    on : (e : Bool) (t : Bytes) → AllBytes t → AllBytes (pick e (escape_html t) t)
    on true t q = escape_all_bytes t q
    on false t q = q

pub normalize_all_bytes : (s : Bytes) → AllBytes s → AllBytes (normalize_lit_str s)
unfolding normalize_lit_str
normalize_all_bytes s h = all_joined (map trim_start (lines s)) (all_fronts (lines s) (all_lines s h))
