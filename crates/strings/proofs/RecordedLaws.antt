-- Templates one behind the other: their bytes, their sizes, what is too long of them; and as they stand in the buffer, which are just these bytes
-- where all fits and nothing is too long.
-- Main statements: `row_size`, `rows_size`, `bytes_append`, `long_append`, `recorded_append`, `recorded_length`, `recorded_fits`. Assumes nothing.
use Prim.Native.Nat.{ℕ, suc, ◌+◌, ◌≤◌}
use mathlib.Core.Path.{◌≡◌, refl, sym, ap, ap₂, ◌∙◌}
use mathlib.Core.Bool.{Bool, true, false, ◌&&◌, ◌||◌, or_assoc, false≢true}
use mathlib.Core.List.{List, [], ◌∷◌, ◌++◌, append-nil, append_assoc}
use native.Mathlib.Omega.{arith}
use borrow.Author.Tests.{ltb-false, le-leb}
use lib.Dec.{ltb}
use lib.ListN.{length, length-append}
use Rattle.field.specs.Bytes.{Bytes, pick}
use Rattle.field.specs.Number.{big_endian}
use Rattle.field.specs.Row.{end, field_bytes, bytes, long_body}
use Rattle.field.specs.Put.{put}
use Rattle.field.proofs.NumberLaws.{length_big_endian}
use Rattle.field.proofs.PutLaws.{length_put, put_nil, put_put, length_field_bytes}
use Rattle.spec.specs.Pass.{Template}
use Rattle.spec.specs.Output.{kind_bytes, layout_84, record_front, record_row, strings_row, template_row}
use Rattle.spec.specs.Transform.{templates_row}
use Rattle.spec.specs.Words.{places}
use Rattle.strings.specs.Recorded.{body_size, unkinded, standing, recorded_one, recorded}

-- ---- one record

length_kinds : (ks : List Bool) → length (kind_bytes ks) ≡ length ks
unfolding kind_bytes
length_kinds [] = refl
length_kinds (k ∷ ks) = ap suc (length_kinds ks)

-- a template's body
unfoldable pub body : Template → Bytes
body t = record_front layout_84 t.number (places t.strings) ++ bytes (strings_row t.strings)

pub length_body : (t : Template) → length (body t) ≡ body_size t
unfolding body record_front
length_body t =
    let ks = places t.strings in
    let c = big_endian 2 (length ks) (kind_bytes ks) in
    let f = big_endian 4 t.number c in
    let n : length f ≡ 4 + length c = length_big_endian 4 t.number c in
    let m : length c ≡ 2 + length (kind_bytes ks) = length_big_endian 2 (length ks) (kind_bytes ks) in
    omega (arith, length-append f (bytes (strings_row t.strings)), n, m, length_kinds ks)

pub row_bytes : (t : Template) → bytes (template_row t end) ≡ field_bytes 0x84 (body t)
unfolding body bytes template_row record_row
row_bytes t = append-nil (field_bytes 0x84 (body t))

pub row_size : (t : Template) → length (bytes (template_row t end)) ≡ 3 + body_size t
row_size t = omega (arith, ap length (row_bytes t), length_field_bytes 0x84 (body t), length_body t)

-- ---- one behind the other

rows_bytes : (t : Template) (ts : List Template) → bytes (templates_row (t ∷ ts)) ≡ field_bytes 0x84 (body t) ++ bytes (templates_row ts)
unfolding body bytes templates_row template_row record_row
rows_bytes t ts = refl

rows_long : (t : Template) (ts : List Template) → long_body (templates_row (t ∷ ts)) ≡ (ltb 65535 (length (body t)) || (long_body (strings_row t.strings) || long_body (templates_row ts)))
unfolding body long_body templates_row template_row record_row
rows_long t ts = refl

pub rows_size : (t : Template) (ts : List Template) → length (bytes (templates_row (t ∷ ts))) ≡ 3 + body_size t + length (bytes (templates_row ts))
rows_size t ts =
    let f = field_bytes 0x84 (body t) in
    omega (arith, ap length (rows_bytes t ts), length-append f (bytes (templates_row ts)), length_field_bytes 0x84 (body t), length_body t)

pub bytes_append : (ts us : List Template) → bytes (templates_row (ts ++ us)) ≡ bytes (templates_row ts) ++ bytes (templates_row us)
unfolding bytes templates_row
bytes_append [] us = refl
bytes_append (t ∷ ts) us =
    let f = field_bytes 0x84 (body t) in
    rows_bytes t (ts ++ us)
    ∙ ap (λ (x : Bytes). f ++ x) (bytes_append ts us)
    ∙ sym (append_assoc f (bytes (templates_row ts)) (bytes (templates_row us)))
    ∙ ap (λ (x : Bytes). x ++ bytes (templates_row us)) (sym (rows_bytes t ts))

pub size_append : (ts us : List Template) → length (bytes (templates_row (ts ++ us))) ≡ length (bytes (templates_row ts)) + length (bytes (templates_row us))
size_append ts us = ap length (bytes_append ts us) ∙ length-append (bytes (templates_row ts)) (bytes (templates_row us))

pub long_append : (ts us : List Template) → long_body (templates_row (ts ++ us)) ≡ (long_body (templates_row ts) || long_body (templates_row us))
unfolding long_body templates_row
long_append [] us = refl
long_append (t ∷ ts) us =
    let a = ltb 65535 (length (body t)) in
    let b = long_body (strings_row t.strings) in
    let x = long_body (templates_row ts) in
    let y = long_body (templates_row us) in
    rows_long t (ts ++ us)
    ∙ ap (λ (z : Bool). a || (b || z)) (long_append ts us)
    ∙ ap (λ (z : Bool). a || z) (sym (or_assoc b x y))
    ∙ sym (or_assoc a (b || x) y)
    ∙ ap (λ (z : Bool). z || y) (sym (rows_long t ts))

-- ---- in the buffer

-- the field `kinds` of a template stands in no byte: the kinds in a record are of its strings
pub recorded_kinds : (n : ℕ) (ss : List Bytes) (ks ls : List Bool) (o : Bytes) (p : ℕ) →
    recorded_one (record { number = n; strings = ss; kinds = ks }) o p ≡ recorded_one (record { number = n; strings = ss; kinds = ls }) o p
unfolding recorded_one template_row
recorded_kinds n ss ks ls o p = refl

pub recorded_one_is : (t : Template) (o : Bytes) (p : ℕ) → recorded (t ∷ []) o p ≡ recorded_one t o p
unfolding recorded
recorded_one_is t o p = refl

pub one_length : (t : Template) (o : Bytes) (p : ℕ) → length (recorded_one t o p) ≡ length o
unfolding recorded_one
one_length t o p = length_put o p (pick (standing t o p) (bytes (template_row t end)) (unkinded t))

pub recorded_length : (ts : List Template) (o : Bytes) (p : ℕ) → length (recorded ts o p) ≡ length o
unfolding recorded
recorded_length [] o p = refl
recorded_length (t ∷ ts) o p = recorded_length ts (recorded_one t o p) (p + (3 + body_size t)) ∙ one_length t o p

pub recorded_append : (ts us : List Template) (o : Bytes) (p : ℕ) → recorded (ts ++ us) o p ≡ recorded us (recorded ts o p) (p + length (bytes (templates_row ts)))
unfolding recorded bytes templates_row
recorded_append [] us o p = let e : p ≡ p + 0 = omega arith in ap (recorded us o) e
recorded_append (t ∷ ts) us o p =
    let q = p + (3 + body_size t) in
    let e : q + length (bytes (templates_row ts)) ≡ p + length (bytes (templates_row (t ∷ ts))) = omega (arith, rows_size t ts) in
    recorded_append ts us (recorded_one t o p) q ∙ ap (recorded us (recorded ts (recorded_one t o p) q)) e

-- ---- where all fits and nothing is too long

none_of : (a b c : Bool) → (a || (b || c)) ≡ false → (a ≡ false) × (c ≡ false)
none_of true b c e = absurd (false≢true (sym e))
none_of false true c e = absurd (false≢true (sym e))
none_of false false c e = (refl, e)

one_fits : (t : Template) (o : Bytes) (p : ℕ) → body_size t ≤ 65535 → p + (3 + body_size t) ≤ length o → recorded_one t o p ≡ put o p (bytes (template_row t end))
unfolding recorded_one
one_fits t o p h f =
    ap₂ (λ (a b : Bool). put o p (pick (a && b) (bytes (template_row t end)) (unkinded t))) (le-leb (body_size t) 65535 h) (le-leb (p + (3 + body_size t)) (length o) f)

pub recorded_fits : (ts : List Template) (o : Bytes) (p : ℕ) →
    p + length (bytes (templates_row ts)) ≤ length o →
    long_body (templates_row ts) ≡ false →
    recorded ts o p ≡ put o p (bytes (templates_row ts))
unfolding recorded bytes templates_row
recorded_fits [] o p f l = sym (put_nil o p)
recorded_fits (t ∷ ts) o p f l =
    let n = none_of (ltb 65535 (length (body t))) (long_body (strings_row t.strings)) (long_body (templates_row ts)) (sym (rows_long t ts) ∙ l) in
    let a = field_bytes 0x84 (body t) in
    let b = bytes (templates_row ts) in
    let q = p + (3 + body_size t) in
    let h : body_size t ≤ 65535 = omega (arith, ltb-false 65535 (length (body t)) n.0, length_body t) in
    let k : q ≤ length o = omega (arith, f, rows_size t ts) in
    let s : q + length b ≤ length o = omega (arith, f, rows_size t ts) in
    let e : recorded_one t o p ≡ put o p a = one_fits t o p h k ∙ ap (put o p) (row_bytes t) in
    let g : q + length b ≤ length (put o p a) = omega (arith, s, length_put o p a) in
    let j : q ≡ p + length a = omega (arith, length_field_bytes 0x84 (body t), length_body t) in
    ap (λ (x : Bytes). recorded ts x q) e
    ∙ recorded_fits ts (put o p a) q g n.1
    ∙ ap (λ (x : ℕ). put (put o p a) x b) j
    ∙ put_put o p a b
    ∙ ap (put o p) (sym (rows_bytes t ts))
