-- Fields that a page and the outs hold alike: texts, Booleans, the names of members. What the checks take is the row of what it is read as, what
-- is written is taken and read back, and it is bytes.
-- Main statements: `leaf_row`, `node_row`; `text_ok`, `fine_text`; `boolean_sound`, `boolean_whole`; `member_sound`, `member_fine`, `members_read`.
-- Assumes nothing.
use mathlib.Core.Path.{◌≡◌, refl, sym, ap, ◌∙◌, subst}
use mathlib.Core.Bool.{Bool, true, false, ◌&&◌, not}
use Prim.Native.Nat.{ℕ, zero, suc, ◌≤◌, ◌<◌}
use native.Mathlib.Omega.{arith}
use mathlib.Core.List.{List, [], ◌∷◌}
use lib.Dec.{T, ltb, leb, eqb, eqb_refl, ltb→lt, leb→le, eqb→eq}
use lib.ListN.{length, length-append}
use borrow.Author.Tests.{eqb-true, eqb-false}
use Rattle.field.specs.Bytes.{Bytes, AllBytes}
use Rattle.field.specs.Row.{Row, end, loose, field, bytes, long_body, only_bytes, fields_after, inside, read}
use Rattle.field.proofs.RowLaws.{FrontFits, Shaped, Sane, read_back}
use Rattle.utf8.specs.Utf8.{utf8}
use Rattle.page.specs.Tree.{choose, texts_in, boolean_in}
use Rattle.refusal.specs.Refusal.{Fine, after}
use Rattle.page.specs.Check.{check_end, check_text, check_empty, check_boolean, name_start, name_parts, is_name, no_hyphen, check_members, at_least, check_name_by}
use Rattle.page.specs.Encode.{boolean_byte, texts_row}
use Rattle.page.specs.Limits.{Deep, Utf8Ok, MembersOk, TextsOk}
use Rattle.refusal.specs.declared.Refusal.TheVariants as R
use Rattle.refusal.proofs.Verdicts.{refused, after_fine, unless_fine, fine_after, fine_unless}
use Rattle.page.proofs.Headers.{header_fine, fine_header}
use Rattle.page.proofs.Booleans.{and_both}
use Rattle.page.proofs.Letters.{utf8_bytes, name_bytes}
use Rattle.page.proofs.TightRows.{Tight, tight_shaped, tight_sane, short_field}

-- the first of two, where the test holds
pub chosen : {A : Type 0} (b : Bool) (f g : Unit {0} → A) → T b → choose b f g ≡ f tt
unfolding choose
chosen true f g h = refl
chosen false f g h = absurd h

-- ---- rows

-- a field of text has no fields, and a field of fields no front
pub leaf_row : (t : ℕ) (f : Bytes) (i r : Row) → FrontFits only_bytes f i → field t f end r ≡ field t f i r
unfolding FrontFits
leaf_row t f end r h = refl
leaf_row t f (loose b) r h = absurd h
leaf_row t f (field u g i q) r h = absurd h

pub node_row : (t : ℕ) (f : Bytes) (i r : Row) → FrontFits (fields_after 0) f i → field t [] i r ≡ field t f i r
unfolding FrontFits
node_row t [] i r h = refl
node_row t (c ∷ f) i r h = absurd (let e = eqb→eq (suc (length f)) 0 h in omega arith)

-- where one tag alone is allowed
pub tag_is : (t u : ℕ) (f : Bytes) (i r x : Row) → T (eqb t u) → (FrontFits (inside u) f i → x ≡ field u f i r) → FrontFits (inside t) f i → x ≡ field t f i r
tag_is t u f i r x e = subst (λ (v : ℕ). (FrontFits (inside v) f i → x ≡ field v f i r) → FrontFits (inside t) f i → x ≡ field t f i r) (eqb→eq t u e) (λ h. h)

pub ended : (x : Row) → check_end x ≡ Fine → end ≡ x
unfolding check_end
ended end e = refl
ended (loose b) e = refused R.Truncated e
ended (field t f i r) e = refused R.Misplaced e

-- ---- texts, nothing, Booleans

pub text_ok : (f : Bytes) → check_text f ≡ Fine → Utf8Ok f
unfolding check_text
text_ok f e = unless_fine (utf8 f) R.NotUtf8 e

pub fine_text : (b : Bytes) → Utf8Ok b → check_text b ≡ Fine
unfolding check_text
fine_text b h = fine_unless (utf8 b) R.NotUtf8 h

pub empty_is : (f : Bytes) → check_empty f ≡ Fine → [] ≡ f
unfolding check_empty
empty_is [] e = refl
empty_is (c ∷ f) e = absurd (let z = eqb→eq (suc (length f)) 0 (unless_fine (eqb (suc (length f)) 0) R.Misplaced e) in omega arith)

bit_sound : (c : ℕ) (b : Bool) → c ≤ 1 → eqb c 1 ≡ b → boolean_byte b ≡ c
bit_sound c true l e = sym (eqb-true c 1 e)
bit_sound c false l e = omega (arith, eqb-false c 1 e)

pub boolean_sound : (f : Bytes) → check_boolean f ≡ Fine → boolean_byte (boolean_in f) ∷ [] ≡ f
unfolding check_boolean boolean_in
boolean_sound [] e = refused R.Misplaced e
boolean_sound (c ∷ []) e = ap (λ (x : ℕ). x ∷ []) (bit_sound c (eqb c 1) (leb→le c 1 (unless_fine (leb c 1) R.Misplaced e)) refl)
boolean_sound (c ∷ d ∷ f) e = refused R.Misplaced e

pub boolean_whole : (b : Bool) → (check_boolean (boolean_byte b ∷ []) ≡ Fine) × (boolean_in (boolean_byte b ∷ []) ≡ b)
unfolding check_boolean boolean_in
boolean_whole true = (refl, refl)
boolean_whole false = (refl, refl)

pub boolean_all : (b : Bool) → AllBytes (boolean_byte b ∷ [])
unfolding AllBytes
boolean_all true = (ltb→lt 1 256 tt, tt)
boolean_all false = (ltb→lt 0 256 tt, tt)

-- texts in the fields of one tag that holds no field
pub texts_tight : (t : ℕ) → ((x : Bytes) → FrontFits (inside t) x end) → T (ltb t 256) → (xs : List Bytes) → TextsOk xs → Tight inside (texts_row t xs)
unfolding texts_row TextsOk Tight
texts_tight t fit low [] h = tt
texts_tight t fit low (x ∷ xs) h = (fit x, utf8_bytes x h.0, low, tt, texts_tight t fit low xs h.1)

-- ---- the 40s of a 41

-- a field with the tag that is asked for is read
pub texts_here : (u t : ℕ) (f : Bytes) (i r : Row) → T (eqb t u) → texts_in u (field t f i r) ≡ f ∷ texts_in u r
unfolding texts_in
texts_here u t f i r h = chosen (eqb t u) _ _ h

pub texts_back : (t : ℕ) (ns : List Bytes) → texts_in t (texts_row t ns) ≡ ns
unfolding texts_row
texts_back t [] = unfold texts_in in refl
texts_back t (n ∷ ns) = texts_here t t n end (texts_row t ns) (eqb_refl t) ∙ ap (λ (x : List Bytes). n ∷ x) (texts_back t ns)

members_sound : (x : Row) (k d : ℕ) → Sane x → check_members k d x ≡ Fine → (texts_row 0x40 (texts_in 0x40 x) ≡ x) × MembersOk d (texts_in 0x40 x) × (length (texts_in 0x40 x) ≤ k)
unfolding check_members texts_row MembersOk Sane inside
members_sound end k d s e = unfold texts_in in (refl, tt, omega arith)
members_sound (loose b) k d s e = refused R.Truncated e
members_sound (field t f i r) zero d s e = refused R.Misplaced e
members_sound (field t f i r) (suc k) d s e =
    let a = after_fine _ _ e in
    let h = header_fine (eqb t 0x40) d a.0 in
    let b = after_fine _ _ a.1 in
    let m = members_sound r k d s.3 b.1 in
    let l = m.2 in
    subst (λ (ns : List Bytes). (texts_row 0x40 ns ≡ field t f i r) × MembersOk d ns × (length ns ≤ suc k)) (sym (texts_here 0x40 t f i r h.0))
    (ap (λ (x : Row). field 0x40 f end x) m.0 ∙ tag_is t 0x40 f i r (field 0x40 f end r) h.0 (leaf_row 0x40 f i r) s.0, (h.1, unless_fine (is_name f && no_hyphen f) R.BadName b.0, m.1), omega arith)

at_least_long : (k : ℕ) (ns : List Bytes) → T (at_least k (texts_row 0x40 ns)) → k ≤ length ns
unfolding at_least texts_row
at_least_long zero ns h = omega arith
at_least_long (suc k) [] h = absurd h
at_least_long (suc k) (n ∷ ns) h = let l = at_least_long k ns h in omega arith

pub member_sound : (d : ℕ) (f : Bytes) (i : Row) → Sane i → check_name_by 0x41 d f i ≡ Fine →
    (texts_row 0x40 (texts_in 0x40 i) ≡ i) × (2 ≤ length (texts_in 0x40 i)) × (length (texts_in 0x40 i) ≤ 8) × MembersOk d (texts_in 0x40 i)
unfolding check_name_by choose
member_sound d f i s e =
    let a = after_fine _ _ e in
    let m = members_sound i 8 d s a.0 in
    (m.0, at_least_long 2 (texts_in 0x40 i) (subst (λ (x : Row). T (at_least 2 x)) (sym m.0) (unless_fine (at_least 2 i) R.Misplaced a.1)), m.2, m.1)

at_least_texts : (k : ℕ) (ns : List Bytes) → k ≤ length ns → T (at_least k (texts_row 0x40 ns))
unfolding at_least texts_row
at_least_texts zero ns h = tt
at_least_texts (suc k) [] h = absurd (omega arith)
at_least_texts (suc k) (n ∷ ns) h = at_least_texts k ns (omega arith)

members_fine : (ns : List Bytes) (k d : ℕ) → length ns ≤ k → MembersOk d ns → check_members k d (texts_row 0x40 ns) ≡ Fine
unfolding check_members texts_row MembersOk
members_fine [] k d l h = refl
members_fine (n ∷ ns) zero d l h = absurd (omega arith)
members_fine (n ∷ ns) (suc k) d l h = fine_after _ _ (fine_header true d tt h.0) (fine_after _ _ (fine_unless (is_name n && no_hyphen n) R.BadName h.1) (members_fine ns k d (omega arith) h.2))

pub member_fine : (d : ℕ) (f : Bytes) (ns : List Bytes) → 2 ≤ length ns → length ns ≤ 8 → MembersOk d ns → check_name_by 0x41 d f (texts_row 0x40 ns) ≡ Fine
unfolding check_name_by choose
member_fine d f ns l m h = fine_after _ _ (members_fine ns 8 d m h) (fine_unless (at_least 2 (texts_row 0x40 ns)) R.Misplaced (at_least_texts 2 ns l))

-- at another depth
pub members_at : (ns : List Bytes) (d e : ℕ) → Deep e → MembersOk d ns → MembersOk e ns
unfolding MembersOk
members_at [] d e l h = tt
members_at (n ∷ ns) d e l h = (l, h.1, members_at ns d e l h.2)

pub members_tight : (ns : List Bytes) (d : ℕ) → MembersOk d ns → Tight inside (texts_row 0x40 ns)
unfolding texts_row MembersOk Tight inside FrontFits
members_tight [] d h = tt
members_tight (n ∷ ns) d h = (tt, name_bytes n (and_both (is_name n) (no_hyphen n) h.1).0, tt, tt, members_tight ns d h.2)

name_short : (n : Bytes) → T (is_name n) → length n ≤ 128
unfolding is_name
name_short [] h = absurd h
name_short (c ∷ n) h = let k = leb→le (length (c ∷ n)) 128 (and_both (leb (length (c ∷ n)) 128) (name_start c && name_parts n) h).0 in k

pub members_short : (ns : List Bytes) (d : ℕ) → MembersOk d ns → T (not (long_body (texts_row 0x40 ns)))
unfolding texts_row MembersOk long_body bytes
members_short [] d h = tt
members_short (n ∷ ns) d h =
    let l : length n ≤ 128 = name_short n (and_both (is_name n) (no_hyphen n) h.1).0 in
    short_field 0x40 n end (texts_row 0x40 ns) (omega (arith, length-append n [])) tt (members_short ns d h.2)

pub members_read : (ns : List Bytes) (d : ℕ) → MembersOk d ns → read (bytes (texts_row 0x40 ns)) ≡ texts_row 0x40 ns
members_read ns d h = read_back (texts_row 0x40 ns) (unfold Shaped in tight_shaped inside (texts_row 0x40 ns) (members_tight ns d h)) (members_short ns d h)

pub members_sane : (ns : List Bytes) (d : ℕ) → MembersOk d ns → Sane (texts_row 0x40 ns)
members_sane ns d h = unfold Sane in tight_sane inside (texts_row 0x40 ns) (members_tight ns d h)
