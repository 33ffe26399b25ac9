-- Options: what is accepted is at most one 02, one 03, one 04 and one 05, in this order; each may be absent, and an empty list is read as
-- an absent one, so that two rows may be read alike.
-- Main statements: `options_sound`, `options_ok`, `given_complete`, `options_complete`.
-- Assumes nothing.
use mathlib.Core.Path.{◌≡◌, refl, sym, ap, ap₂, ◌∙◌, subst}
use mathlib.Core.Bool.{Bool, true, false, ◌&&◌, not}
use Rattle.std.specs.Prelude.{Option, Some, None}
use Prim.Native.Nat.{ℕ, suc}
use native.Mathlib.Omega.{arith}
use mathlib.Core.List.{List, [], ◌∷◌}
use lib.Dec.{T, leb, eqb, leb→le, le→leb}
use lib.ListN.{length}
use borrow.Author.Tests.{eqb-true, eqb-false}
use Rattle.field.specs.Bytes.{Bytes, ascii, null?}
use Rattle.field.specs.Row.{Row, end, loose, field, fields_after, inside}
use Rattle.field.proofs.RowLaws.{FrontFits, Sane}
use Rattle.utf8.specs.Utf8.{utf8, utf8_behind, begun, forms}
use Rattle.page.specs.Page.{Options}
use Rattle.page.specs.Tree.{choose, texts_in, listed_in, source_in, works_sums, options_in}
use Rattle.page.specs.Check.{check_texts, check_empty, check_source, check_option_by, check_options_from, check_options}
use Rattle.page.specs.Encode.{texts_row, list_row, options_row}
use Rattle.page.specs.Limits.{Utf8Ok, TextsOk, OptionsOk}
use Rattle.page.specs.Given.{Given, given_list, given_sums, given_source, given_row, ListOk, SourceOk, GivenOk, or_nothing, or_react, options_of}
use Rattle.refusal.specs.declared.Refusal.TheVariants as R
use Rattle.refusal.specs.Refusal.{Fine}
use Rattle.refusal.proofs.Verdicts.{refused, after_fine, unless_fine, fine_after, fine_unless}
use Rattle.page.proofs.Headers.{header_fine, fine_header}
use Rattle.page.proofs.Booleans.{and_both, both_and}
use Rattle.page.proofs.Bodies.{leaf_row, node_row, tag_is, text_ok, fine_text, empty_is, texts_here, texts_back}

-- ---- what is accepted

texts_sound : (x : Row) → Sane x → check_texts x ≡ Fine → (texts_row 0x20 (texts_in 0x20 x) ≡ x) × TextsOk (texts_in 0x20 x)
unfolding check_texts texts_row TextsOk Sane inside
texts_sound end s e = unfold texts_in in (refl, tt)
texts_sound (loose b) s e = refused R.Truncated e
texts_sound (field t f i r) s e =
    let a = after_fine _ _ e in
    let h = header_fine (eqb t 0x20) 2 a.0 in
    let b = after_fine _ _ a.1 in
    let m = texts_sound r s.3 b.1 in
    subst (λ (xs : List Bytes). (texts_row 0x20 xs ≡ field t f i r) × TextsOk xs) (sym (texts_here 0x20 t f i r h.0))
    (ap (λ (x : Row). field 0x20 f end x) m.0 ∙ tag_is t 0x20 f i r (field 0x20 f end r) h.0 (leaf_row 0x20 f i r) s.0, (text_ok f b.0, m.1))

not_empty : (b : Bytes) → T (leb 1 (length b)) → T (not (null? b))
not_empty [] h = absurd h
not_empty (c ∷ b) h = tt

source_sound : (b : Bytes) → check_source b ≡ Fine → SourceOk (Some b)
unfolding check_source SourceOk
source_sound b e = let a = after_fine _ _ e in (text_ok b a.1, not_empty b (unless_fine (leb 1 (length b)) R.Misplaced a.0))

-- behind a 05 nothing may come
nothing_behind : (x : Row) → check_options_from 6 x ≡ Fine → end ≡ x
unfolding check_options_from
nothing_behind end e = refl
nothing_behind (loose b) e = refused R.Truncated e
nothing_behind (field t f i r) e =
    let a = after_fine _ _ e in
    let h = header_fine (leb 6 t && leb t 0x05) 1 a.0 in
    let k = and_both (leb 6 t) (leb t 0x05) h.0 in
    absurd (omega (arith, leb→le 6 t k.0, leb→le t 0x05 k.1))

-- the field k in front of x, accepted with what follows it
record First (k : ℕ) (x : Row) : Type 0 where
  front : Bytes
  inner : Row
  rest : Row
  row_is : field k front inner rest ≡ x
  fits : FrontFits (inside k) front inner
  inner_sane : Sane inner
  rest_sane : Sane rest
  body_fine : check_option_by k front inner ≡ Fine
  rest_fine : check_options_from (suc k) rest ≡ Fine

-- the field k, or none of that tag
first_or : {C : Type 0} (k : ℕ) (x : Row) → Sane x → check_options_from k x ≡ Fine → (First k x → C) → (check_options_from (suc k) x ≡ Fine → C) → C
unfolding check_options_from Sane
first_or k end s e p q = q refl
first_or k (loose b) s e p q = refused R.Truncated e
first_or {C} k (field t f i r) s e p q =
    let a = after_fine _ _ e in
    let h = header_fine (leb k t && leb t 0x05) 1 a.0 in
    let b = after_fine _ _ a.1 in
    on t s.0 h.0 b.0 b.1 p q (eqb t k) refl
  where
    on : (t : ℕ) → FrontFits (inside t) f i → T (leb k t && leb t 0x05) → check_option_by t f i ≡ Fine → check_options_from (suc t) r ≡ Fine →
        (First k (field t f i r) → C) → (check_options_from (suc k) (field t f i r) ≡ Fine → C) → (c : Bool) → eqb t k ≡ c → C
    on t w h b m p q true g =
        subst (λ (u : ℕ). (First k (field u f i r) → C) → FrontFits (inside u) f i → check_option_by u f i ≡ Fine → check_options_from (suc u) r ≡ Fine → C) (sym (eqb-true t k g))
        (λ p w b m. p (record { front = f; inner = i; rest = r; row_is = refl; fits = w; inner_sane = s.2; rest_sane = s.3; body_fine = b; rest_fine = m })) p w b m
    on t w h b m p q false g =
        let l = and_both (leb k t) (leb t 0x05) h in
        let n = le→leb (suc k) t (omega (arith, leb→le k t l.0, eqb-false t k g)) in
        q (fine_after _ _ (fine_header (leb (suc k) t && leb t 0x05) 1 (both_and (leb (suc k) t) (leb t 0x05) n l.1) tt) (fine_after _ _ b m))

-- a list that stands, or none
list_sound : (k : ℕ) (f : Bytes) (i r : Row) → FrontFits (fields_after 0) f i → Sane i → check_texts i ≡ Fine → (given_list k (Some (texts_in 0x20 i)) r ≡ field k f i r) × ListOk (Some (texts_in 0x20 i))
unfolding given_list ListOk
list_sound k f i r h s e = let m = texts_sound i s e in (ap (λ (x : Row). field k [] x r) m.0 ∙ node_row k f i r h, m.1)

from_05 : (x : Row) → Sane x → check_options_from 0x05 x ≡ Fine → (w : Bool) × (given_sums w ≡ x)
unfolding given_sums choose inside
from_05 x s e =
    first_or 0x05 x s e
    (λ p. (true, ap₂ (λ (f : Bytes) (y : Row). field 0x05 f end y) (empty_is p.front p.body_fine) (nothing_behind p.rest p.rest_fine) ∙ leaf_row 0x05 p.front p.inner p.rest p.fits ∙ p.row_is))
    (λ e. (false, nothing_behind x e))

from_04 : (x : Row) → Sane x → check_options_from 0x04 x ≡ Fine → (c : Option Bytes) × (w : Bool) × (given_source c (given_sums w) ≡ x) × SourceOk c
unfolding given_source choose inside SourceOk
from_04 x s e =
    first_or 0x04 x s e
    (λ p.
    let w = from_05 p.rest p.rest_sane p.rest_fine in
    (Some p.front, w.0, ap (λ (y : Row). field 0x04 p.front end y) w.1 ∙ leaf_row 0x04 p.front p.inner p.rest p.fits ∙ p.row_is, source_sound p.front p.body_fine))
    (λ e. let w = from_05 x s e in (None, w.0, w.1, tt))

from_03 : (x : Row) → Sane x → check_options_from 0x03 x ≡ Fine → (b : Option (List Bytes)) × (c : Option Bytes) × (w : Bool) × (given_list 0x03 b (given_source c (given_sums w)) ≡ x) × ListOk b × SourceOk c
unfolding choose inside given_list ListOk
from_03 x s e =
    first_or 0x03 x s e
    (λ p.
    let c = from_04 p.rest p.rest_sane p.rest_fine in
    let m = list_sound 0x03 p.front p.inner p.rest p.fits p.inner_sane p.body_fine in
    (Some (texts_in 0x20 p.inner), c.0, c.1, ap (λ (y : Row). given_list 0x03 (Some (texts_in 0x20 p.inner)) y) c.2 ∙ m.0 ∙ p.row_is, m.1, c.3))
    (λ e. let c = from_04 x s e in (None, c.0, c.1, c.2, tt, c.3))

-- accepted options are written as they were given, and an absent one is read as its default
given_sound : (x : Row) → Sane x → check_options x ≡ Fine → (g : Given) × (given_row g ≡ x) × GivenOk g
unfolding check_options given_row GivenOk choose inside given_list ListOk
given_sound x s e =
    first_or 0x02 x s e
    (λ p.
    let c = from_03 p.rest p.rest_sane p.rest_fine in
    let m = list_sound 0x02 p.front p.inner p.rest p.fits p.inner_sane p.body_fine in
    (record { elements = Some (texts_in 0x20 p.inner); attributes = c.0; source = c.1; sums = c.2 }, ap (λ (y : Row). given_list 0x02 (Some (texts_in 0x20 p.inner)) y) c.3 ∙ m.0 ∙ p.row_is, (m.1, c.4, c.5)))
    (λ e. let c = from_03 x s e in (record { elements = None; attributes = c.0; source = c.1; sums = c.2 }, c.3, (tt, c.4, c.5)))

-- ---- what is read

-- a list is passed over where another or the source is looked for
listed_past : (t u : ℕ) (a : Option (List Bytes)) (r : Row) → eqb t u ≡ false → listed_in u (given_list t a r) ≡ listed_in u r
unfolding listed_in given_list choose
listed_past t u None r e = refl
listed_past t u (Some xs) r e = rw e

source_past : (t : ℕ) (a : Option (List Bytes)) (r : Row) → eqb t 0x04 ≡ false → source_in (given_list t a r) ≡ source_in r
unfolding source_in given_list choose
source_past t None r e = refl
source_past t (Some xs) r e = rw e

sums_past : (t : ℕ) (a : Option (List Bytes)) (r : Row) → eqb t 0x05 ≡ false → works_sums (given_list t a r) ≡ works_sums r
unfolding works_sums given_list
sums_past t None r e = refl
sums_past t (Some xs) r e = rw e

sums_listed : (u : ℕ) (w : Bool) → eqb 0x05 u ≡ false → listed_in u (given_sums w) ≡ []
unfolding listed_in given_sums choose
sums_listed u false e = refl
sums_listed u true e = rw e

source_listed : (u : ℕ) (c : Option Bytes) (w : Bool) → eqb 0x04 u ≡ false → eqb 0x05 u ≡ false → listed_in u (given_source c (given_sums w)) ≡ []
unfolding listed_in given_source choose
source_listed u None w e g = sums_listed u w g
source_listed u (Some b) w e g = rw e (sums_listed u w g)

-- a list that stands is found; of one that does not, nothing else is taken for it
listed_here : (t : ℕ) (a : Option (List Bytes)) (r : Row) → T (eqb t t) → listed_in t r ≡ [] → listed_in t (given_list t a r) ≡ or_nothing a
unfolding listed_in given_list choose or_nothing
listed_here t None r k e = e
listed_here t (Some xs) r k e = on (eqb t t) k
  where
    on : (b : Bool) → T b → choose b (λ _. texts_in 0x20 (texts_row 0x20 xs)) (λ _. listed_in t r) ≡ xs
    on true k = texts_back 0x20 xs
    on false k = absurd k

source_given : (c : Option Bytes) (w : Bool) → source_in (given_source c (given_sums w)) ≡ or_react c
unfolding source_in given_source given_sums choose or_react
source_given None false = refl
source_given None true = refl
source_given (Some b) w = refl

sums_behind : (c : Option Bytes) (w : Bool) → works_sums (given_source c (given_sums w)) ≡ w
unfolding works_sums given_source given_sums
sums_behind None false = refl
sums_behind None true = refl
sums_behind (Some b) false = refl
sums_behind (Some b) true = refl

-- sums are worked out exactly where the 05 is given
sums_in : (g : Given) → works_sums (given_row g) ≡ g.sums
unfolding given_row
sums_in g =
    let r : Row = given_source g.source (given_sums g.sums) in
    sums_past 0x02 g.elements (given_list 0x03 g.attributes r) refl ∙ sums_past 0x03 g.attributes r refl ∙ sums_behind g.source g.sums

-- an absent list is read as an empty one, and an absent source as 01's default
given_in : (g : Given) → options_in (given_row g) ≡ options_of g
unfolding given_row options_of options_in
given_in g =
    let r : Row = given_source g.source (given_sums g.sums) in
    let a = listed_here 0x02 g.elements (given_list 0x03 g.attributes r) tt (listed_past 0x03 0x02 g.attributes r refl ∙ source_listed 0x02 g.source g.sums refl refl) in
    let b = listed_past 0x02 0x03 g.elements (given_list 0x03 g.attributes r) refl ∙ listed_here 0x03 g.attributes r tt (source_listed 0x03 g.source g.sums refl refl) in
    let c = source_past 0x02 g.elements (given_list 0x03 g.attributes r) refl ∙ source_past 0x03 g.attributes r refl ∙ source_given g.source g.sums in
    ap₂ (λ (x y : List Bytes). record { skip_serialize = x; skip_prop_serialize = y; import_source = source_in (given_row g) }) a b
    ∙ ap (λ (z : Bytes). record { skip_serialize = or_nothing g.elements; skip_prop_serialize = or_nothing g.attributes; import_source = z }) c

pub options_sound : (x : Row) → Sane x → check_options x ≡ Fine → (g : Given) × (given_row g ≡ x) × GivenOk g × (options_in x ≡ options_of g) × (works_sums x ≡ g.sums)
options_sound x s e = let p = given_sound x s e in (p.0, p.1, p.2, ap options_in (sym p.1) ∙ given_in p.0, ap works_sums (sym p.1) ∙ sums_in p.0)

-- ---- what is written is accepted

texts_fine : (xs : List Bytes) → TextsOk xs → check_texts (texts_row 0x20 xs) ≡ Fine
unfolding check_texts texts_row TextsOk
texts_fine [] h = refl
texts_fine (x ∷ xs) h = fine_after _ _ (fine_header true 2 tt tt) (fine_after _ _ (fine_text x h.0) (texts_fine xs h.1))

source_fine : (b : Bytes) → Utf8Ok b → T (not (null? b)) → check_source b ≡ Fine
unfolding check_source
source_fine [] h k = absurd k
source_fine (c ∷ b) h k = fine_after _ _ (fine_unless (leb 1 (length (c ∷ b))) R.Misplaced (le→leb 1 (suc (length b)) (omega arith))) (fine_text (c ∷ b) h)

fine_05 : (k : ℕ) (w : Bool) → T (leb k 0x05) → check_options_from k (given_sums w) ≡ Fine
unfolding check_options_from given_sums check_empty choose
fine_05 k false l = refl
fine_05 k true l = fine_after _ _ (fine_header (leb k 0x05 && true) 1 (both_and (leb k 0x05) true l tt) tt) (fine_after _ _ (fine_unless true R.Misplaced tt) refl)

module _ (w : Bool) where
  fine_04 : (k : ℕ) (c : Option Bytes) → T (leb k 0x04) → SourceOk c → check_options_from k (given_source c (given_sums w)) ≡ Fine
  unfolding check_options_from given_source SourceOk choose
  fine_04 k None l h = fine_05 k w (le→leb k 0x05 (omega (arith, leb→le k 0x04 l)))
  fine_04 k (Some b) l h = fine_after _ _ (fine_header (leb k 0x04 && true) 1 (both_and (leb k 0x04) true l tt) tt) (fine_after _ _ (source_fine b h.0 h.1) (fine_05 0x05 w tt))

  fine_03 : (k : ℕ) (b : Option (List Bytes)) (c : Option Bytes) → T (leb k 0x03) → ListOk b → SourceOk c → check_options_from k (given_list 0x03 b (given_source c (given_sums w))) ≡ Fine
  unfolding check_options_from given_list ListOk choose
  fine_03 k None c l h s = fine_04 k c (le→leb k 0x04 (omega (arith, leb→le k 0x03 l))) s
  fine_03 k (Some xs) c l h s = fine_after _ _ (fine_header (leb k 0x03 && true) 1 (both_and (leb k 0x03) true l tt) tt) (fine_after _ _ (texts_fine xs h) (fine_04 0x04 c tt s))

  fine_02 : (a b : Option (List Bytes)) (c : Option Bytes) → ListOk a → ListOk b → SourceOk c → check_options_from 2 (given_list 0x02 a (given_list 0x03 b (given_source c (given_sums w)))) ≡ Fine
  unfolding check_options_from given_list ListOk choose
  fine_02 None b c g h s = fine_03 2 b c tt h s
  fine_02 (Some xs) b c g h s = fine_after _ _ (fine_header true 1 tt tt) (fine_after _ _ (texts_fine xs g) (fine_03 0x03 b c tt h s))

pub given_complete : (g : Given) → GivenOk g → (check_options (given_row g) ≡ Fine) × (options_in (given_row g) ≡ options_of g) × (works_sums (given_row g) ≡ g.sums)
unfolding check_options given_row GivenOk
given_complete g h = (fine_02 g.sums g.elements g.attributes g.source h.0 h.1 h.2, given_in g, sums_in g)

-- options as `options_row` writes them: an empty list is left out, the source stands
unfoldable pub some_list : List Bytes → Option (List Bytes)
some_list [] = None
some_list (x ∷ xs) = Some (x ∷ xs)

some_list_row : (t : ℕ) (xs : List Bytes) (r : Row) → given_list t (some_list xs) r ≡ list_row t xs r
unfolding some_list given_list list_row
some_list_row t [] r = refl
some_list_row t (x ∷ xs) r = refl

some_list_ok : (xs : List Bytes) → TextsOk xs → ListOk (some_list xs)
unfolding some_list ListOk
some_list_ok [] h = tt
some_list_ok (x ∷ xs) h = h

some_list_is : (xs : List Bytes) → or_nothing (some_list xs) ≡ xs
unfolding some_list or_nothing
some_list_is [] = refl
some_list_is (x ∷ xs) = refl

unfoldable pub given_of : Options → Given
given_of o = record { elements = some_list o.skip_serialize; attributes = some_list o.skip_prop_serialize; source = Some o.import_source; sums = false }

pub given_of_row : (o : Options) → given_row (given_of o) ≡ options_row o
unfolding given_of given_row given_source given_sums options_row
given_of_row o =
    let r : Row = field 0x04 o.import_source end end in
    some_list_row 0x02 o.skip_serialize (given_list 0x03 (some_list o.skip_prop_serialize) r) ∙ ap (λ (x : Row). list_row 0x02 o.skip_serialize x) (some_list_row 0x03 o.skip_prop_serialize r)

pub given_of_ok : (o : Options) → OptionsOk o → GivenOk (given_of o)
unfolding given_of OptionsOk GivenOk SourceOk
given_of_ok o h = (some_list_ok o.skip_serialize h.0, some_list_ok o.skip_prop_serialize h.1, (h.2, h.3))

given_of_is : (o : Options) → options_of (given_of o) ≡ o
unfolding given_of options_of or_react
given_of_is o = ap₂ (λ (x y : List Bytes). record { skip_serialize = x; skip_prop_serialize = y; import_source = o.import_source }) (some_list_is o.skip_serialize) (some_list_is o.skip_prop_serialize)

pub options_complete : (o : Options) → OptionsOk o → (check_options (options_row o) ≡ Fine) × (options_in (options_row o) ≡ o) × (works_sums (options_row o) ≡ false)
unfolding given_of
options_complete o h =
    let m = given_complete (given_of o) (given_of_ok o h) in
    let e = given_of_row o in
    (ap check_options (sym e) ∙ m.0, ap options_in (sym e) ∙ m.1 ∙ given_of_is o, ap works_sums (sym e) ∙ m.2)

-- ---- what is read is within the limits

list_ok : (a : Option (List Bytes)) → ListOk a → TextsOk (or_nothing a)
unfolding ListOk or_nothing TextsOk
list_ok None h = tt
list_ok (Some xs) h = h

source_ok : (c : Option Bytes) → SourceOk c → Utf8Ok (or_react c) × T (not (null? (or_react c)))
unfolding SourceOk or_react utf8 utf8_behind begun forms
source_ok None h = (tt, tt)
source_ok (Some b) h = h

pub options_ok : (x : Row) → Sane x → check_options x ≡ Fine → TextsOk (options_in x).skip_serialize × TextsOk (options_in x).skip_prop_serialize × Utf8Ok (options_in x).import_source × T (not (null? (options_in x).import_source))
unfolding GivenOk options_of
options_ok x s e =
    let p = options_sound x s e in
    let g = p.0 in
    let c = source_ok g.source p.2.2 in
    subst (λ (o : Options). TextsOk o.skip_serialize × TextsOk o.skip_prop_serialize × Utf8Ok o.import_source × T (not (null? o.import_source))) (sym p.3)
    (list_ok g.elements p.2.0, list_ok g.attributes p.2.1, c.0, c.1)
