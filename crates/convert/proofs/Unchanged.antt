-- 02, A7: going up changes nothing that demand 3 speaks of. Main statement: `up_changes_nothing`; on rows `templates_kept`, `calls_kept`.
-- Assumes nothing.
use mathlib.Core.Path.{◌≡◌, refl, sym, ap, ap₂, ◌∙◌, subst}
use mathlib.Core.Bool.{Bool, true, false, ◌&&◌, ◌||◌, not}
use mathlib.Core.Option.{Option, none, some}
use Prim.Native.Nat.{ℕ, ◌+◌}
use native.Mathlib.Omega.{arith}
use mathlib.Core.List.{List, [], ◌∷◌, ◌++◌}
use lib.Dec.{T, eqb}
use lib.ListN.{length, take}
use lib.Seq.{take_all}
use borrow.Author.Tests.{eqb-true, le-leb}
use Rattle.std.proofs.lemmas.Bool.{or_parts}
use Rattle.std.proofs.lemmas.Float.{T_from_false}
use Rattle.field.specs.Bytes.{Bytes, AllBytes, pick}
use Rattle.field.specs.Number.{big_endian, number_of}
use Rattle.field.specs.Row.{Row, end, loose, field, long_body, inside, read}
use Rattle.field.proofs.NumberLaws.{four_read}
use Rattle.field.proofs.Reading.{SaneBy, back, shaped, sane}
use Rattle.field.proofs.RowLaws.{Shaped, Sane, read_back, read_sane}
use Rattle.refusal.specs.Refusal.{Fine}
use Rattle.outs.specs.Held.{nests, held, read_out}
use Rattle.outs.specs.PageOut.{left, within, front_right, good, check_page_out}
use Rattle.outs.specs.Renumber.{renumbered_front, renumbered}
use Rattle.outs.specs.declared.Expect.{Expect}
use Rattle.outs.specs.declared.Expect.TheVariants as E
use Rattle.outs.specs.declared.Kind.TheVariants.{Old}
use Rattle.spec.specs.Output.{layout_80, layout_84, record_front, record_row}
use Rattle.spec.specs.Transform.{bit, stands}
use Rattle.spec.specs.Demand.{begins, recorded_in, called_in, strings_in, kinds_in, AllTags, Each84}
use Rattle.spec.proofs.Counts.{begins_four}
use Rattle.spec.proofs.RowDemand.{strings_back}
use Rattle.spec.proofs.Records.{kinds_few, rest_short, record_shaped, front_length, front_count, front_kinds}
use Rattle.convert.specs.Kinds.{kinds_by_strings}
use Rattle.convert.specs.Convert.{Written, converted, before, raised, upgraded}
use Rattle.convert.specs.Words.{Recorded, recorded, records_in, recorded_with, Called, called, calls_in, called_with, imports_in, Kinded, SaysTheSame}
use Rattle.convert.proofs.RecordLaws.{Sound, rest_sound, record_of, old_front, records_not}
use Rattle.convert.proofs.TemplateLaws.{sound_read}
use Rattle.convert.proofs.PageLaws.{leaf_alone, rest_fine, nest_fine}
use Rattle.convert.proofs.Return.{two_low, up_given, rows_shaped}

-- ---- templates

-- a record that is raised, and the others
record Raised (f : Bytes) (ss : List Bytes) (o : Option Row) (y : Row) : Type 0 where
  kinds : List Bool
  rest : Row
  kinds_are : kinds_by_strings ss ≡ some kinds
  rest_is : o ≡ some rest
  row_is : y ≡ record_row layout_84 (number_of f) kinds ss rest

raised_by : (f : Bytes) (ss : List Bytes) (c : Option (List Bool)) (o : Option Row) (y : Row) → kinds_by_strings ss ≡ c → elim c [ none ↦ none | some ks ↦ before (record_row layout_84 (number_of f) ks ss) o ] ≡ some y → Raised f ss o y
raised_by f ss none o y e h = absurd (let z : none ≡ some y = h in let j : ◌≡◌ {A = ℕ} 0 1 = cc in omega arith)
raised_by f ss (some ks) none y e h = absurd (let z : none ≡ some y = h in let j : ◌≡◌ {A = ℕ} 0 1 = cc in omega arith)
raised_by f ss (some ks) (some r) y e h =
    let z : some (record_row layout_84 (number_of f) ks ss r) ≡ some y = h in
    record { kinds = ks; rest = r; kinds_are = e; rest_is = refl; row_is = cc }

raised_parts : (t : ℕ) (f : Bytes) (i r y : Row) → raised (field t f i r) ≡ some y → Raised f (strings_in i) (raised r) y
unfolding raised
raised_parts t f i r y h = raised_by f (strings_in i) (kinds_by_strings (strings_in i)) (raised r) y refl h

-- the number, in either width
number_kept : (f : Bytes) (ks : List Bool) → length f ≡ 2 → AllBytes f → number_of (take 4 (record_front layout_84 (number_of f) ks)) ≡ number_of (take 2 f)
unfolding record_front big_endian
number_kept f ks l a = four_read (number_of f) (omega (arith, two_low f l a)) ∙ ap number_of (sym (take_all 2 f (omega arith)))

begins_kept : (m : ℕ) (f : Bytes) (ks : List Bool) → length f ≡ 2 → AllBytes f → begins m (record_front layout_84 (number_of f) ks) ≡ eqb (number_of (take 2 f)) m
unfolding begins
begins_kept m f ks l a =
    ap₂ (λ (b : Bool) (n : ℕ). b && eqb n m) (le-leb 4 (length (record_front layout_84 (number_of f) ks)) (omega (arith, front_length (number_of f) ks))) (number_kept f ks l a)

record Kept (x y : Row) : Type 0 where
  same_records : records_in layout_84 y ≡ records_in layout_80 x
  recorded_alike : (m : ℕ) → recorded_in m y ≡ recorded_with m (records_in layout_80 x)
  nothing_else : AllTags 0x84 y
  all_kinded : Each84 Kinded y

kept_record : (f : Bytes) (i r z : Row) (ks : List Bool) → length f ≡ 2 → AllBytes f → kinds_by_strings (strings_in i) ≡ some ks → T (not (long_body (record_row layout_84 (number_of f) ks (strings_in i) z))) → Kept r z → Kept (field 0x80 f i r) (record_row layout_84 (number_of f) ks (strings_in i) z)
unfolding record_row records_in recorded_in recorded_with AllTags Each84
kept_record f i r z ks l a e short k =
    let ss : List Bytes = strings_in i in
    record {
      same_records = ap₂ (λ (x : Recorded) (xs : List Recorded). x ∷ xs) (ap₂ recorded (number_kept f ks l a) (strings_back ss)) k.same_records;
      recorded_alike = λ m. ap₂ (λ (b : Bool) (n : ℕ). bit b 1 + n) (begins_kept m f ks l a) (k.recorded_alike m);
      nothing_else = (tt, k.nothing_else);
      all_kinded = (λ u. record { kinds = ks; by_strings = ap kinds_by_strings (strings_back ss) ∙ e; counted = front_count (number_of f) ks (kinds_few layout_84 (number_of f) ks ss z short tt); written = front_kinds (number_of f) ks }, k.all_kinded);
    }

templates_kept : (x : Row) → Sound Old x → SaneBy inside x → (y : Row) → raised x ≡ some y → T (not (long_body y)) → Kept x y
templates_kept end s a y h l = subst (Kept end) (ended h) (record { same_records = nothing; recorded_alike = λ m. unfold records_in recorded_in recorded_with in refl; nothing_else = only; all_kinded = each })
  where
    ended : raised end ≡ some y → end ≡ y
    ended h = unfold raised in (let z : some end ≡ some y = h in cc)

    nothing : records_in layout_84 end ≡ records_in layout_80 end
    nothing = unfold records_in in refl

    only : AllTags 0x84 end
    only = unfold AllTags in tt

    each : Each84 Kinded end
    each = unfold Each84 in tt
templates_kept (loose b) s a y h l = absurd (records_not Old b s.fine)
templates_kept (field t f i r) s a y h l =
    let d = record_of Old t f i r s.fine in
    let p = raised_parts t f i r y h in
    let ss : List Bytes = strings_in i in
    let short : T (not (long_body (record_row layout_84 (number_of f) p.kinds ss p.rest))) = subst (λ (x : Row). T (not (long_body x))) p.row_is l in
    let rest = templates_kept r (rest_sound Old t f i r s).0 a.3 p.rest p.rest_is (rest_short layout_84 (number_of f) p.kinds ss p.rest short) in
    subst (λ (u : ℕ). Kept (field u f i r) y) (sym d.tag_is)
    (subst (Kept (field 0x80 f i r)) (sym p.row_is) (kept_record f i r p.rest p.kinds (old_front f d.front_is) a.1 p.kinds_are short rest))

-- the row that is written is one that bytes read as
raised_shaped : (x : Row) → Sound Old x → (y : Row) → raised x ≡ some y → T (not (long_body y)) → Shaped y
unfolding Shaped inside
raised_shaped end s y h l = subst Shaped (ended h) tt
  where
    ended : raised end ≡ some y → end ≡ y
    ended h = unfold raised in (let z : some end ≡ some y = h in cc)
raised_shaped (loose b) s y h l = absurd (records_not Old b s.fine)
raised_shaped (field t f i r) s y h l =
    let p = raised_parts t f i r y h in
    let ss : List Bytes = strings_in i in
    let short : T (not (long_body (record_row layout_84 (number_of f) p.kinds ss p.rest))) = subst (λ (x : Row). T (not (long_body x))) p.row_is l in
    let rest = raised_shaped r (rest_sound Old t f i r s).0 p.rest p.rest_is (rest_short layout_84 (number_of f) p.kinds ss p.rest short) in
    subst Shaped (sym p.row_is) (record_shaped inside refl layout_84 refl (number_of f) p.kinds ss p.rest (kinds_few layout_84 (number_of f) p.kinds ss p.rest short) rest)

-- ---- calls

kinds_kept : (to : ℕ) (i : Row) → kinds_in (renumbered to i) ≡ kinds_in i
unfolding kinds_in renumbered
kinds_kept to end = refl
kinds_kept to (loose b) = refl
kinds_kept to (field t f i r) = ap (λ (ks : List Bool). (eqb t 0x91 || eqb t 0x93) ∷ ks) (kinds_kept to r)

abbrev with_call : Bool → ℕ → List Bool → List Called → List Called
with_call b n ks cs = pick b (called n ks ∷ cs) cs

-- a call's number in four bytes, where it had two
call_kept : (t : ℕ) (f : Bytes) (i : Row) (cs : List Called) (b : Bool) → eqb t 0x90 ≡ b → (nests t ≡ true → front_right 2 t f ≡ true) → AllBytes f → with_call (eqb t 0x90) (number_of (renumbered_front 4 t f)) (kinds_in (renumbered 4 i)) cs ≡ with_call (eqb t 0x90) (number_of f) (kinds_in i) cs
call_kept t f i cs true q g a =
    let n : nests t ≡ true = ap nests (eqb-true t 0x90 q) in
    let l : length f ≡ 2 = eqb-true (length f) 2 (subst (λ (b : Bool). pick b (eqb (length f) 2) true ≡ true) q (g n)) in
    let e : number_of (renumbered_front 4 t f) ≡ number_of f = ap (λ (b : Bool). number_of (pick b (big_endian 4 (number_of f) []) f)) q ∙ four_read (number_of f) (omega (arith, two_low f l a)) in
    ap₂ (λ (n : ℕ) (ks : List Bool). with_call (eqb t 0x90) n ks cs) e (kinds_kept 4 i)
call_kept t f i cs false q g a = rw q

called_append : (m : ℕ) (cs ds : List Called) → called_with m (cs ++ ds) ≡ called_with m cs + called_with m ds
unfolding called_with
called_append m [] ds = omega arith
called_append m (called n ks ∷ cs) ds = omega (arith, called_append m cs ds)

-- how often a number is called here
called_here : (m t : ℕ) (f : Bytes) (ks : List Bool) (cs : List Called) (b : Bool) → eqb t 0x90 ≡ b → (nests t ≡ true → front_right 2 t f ≡ true) → AllBytes f → bit (eqb t 0x90 && begins m (renumbered_front 4 t f)) 1 + called_with m cs ≡ called_with m (with_call (eqb t 0x90) (number_of f) ks cs)
unfolding called_with begins
called_here m t f ks cs true q g a =
    let n : nests t ≡ true = ap nests (eqb-true t 0x90 q) in
    let l : length f ≡ 2 = eqb-true (length f) 2 (subst (λ (b : Bool). pick b (eqb (length f) 2) true ≡ true) q (g n)) in
    let e : renumbered_front 4 t f ≡ big_endian 4 (number_of f) [] = ap (λ (b : Bool). pick b (big_endian 4 (number_of f) []) f) q in
    let k : begins m (renumbered_front 4 t f) ≡ eqb (number_of f) m = ap (begins m) e ∙ begins_four m (number_of f) (two_low f l a) in
    ap₂ (λ (b c : Bool). bit (b && c) 1 + called_with m cs) q k ∙ ap (λ (b : Bool). called_with m (with_call b (number_of f) ks cs)) (sym q)
called_here m t f ks cs false q g a =
    ap (λ (b : Bool). bit (b && begins m (renumbered_front 4 t f)) 1 + called_with m cs) q ∙ nothing_more ∙ ap (λ (b : Bool). called_with m (with_call b (number_of f) ks cs)) (sym q)
  where
    nothing_more : 0 + called_with m cs ≡ called_with m cs
    nothing_more = omega arith

record SameCalls (x y : Row) : Type 0 where
  calls : calls_in y ≡ calls_in x
  called_alike : (m : ℕ) → called_in m y ≡ called_with m (calls_in x)
  tags : (u : ℕ) → stands u y ≡ stands u x
  imports : imports_in y ≡ imports_in x

-- another field than a call has its front as it was
import_kept : (t : ℕ) (f : Bytes) (fs : List Bytes) (b : Bool) → eqb t 0x82 ≡ b → pick (eqb t 0x82) (renumbered_front 4 t f ∷ fs) fs ≡ pick (eqb t 0x82) (f ∷ fs) fs
import_kept t f fs true q = ap (λ (u : ℕ). pick (eqb t 0x82) (pick (eqb u 0x90) (big_endian 4 (number_of f) []) f ∷ fs) fs) (eqb-true t 0x82 q)
import_kept t f fs false q = rw q

calls_kept : (c : Expect) (y : Row) → SaneBy (held 2) y → good 2 c y ≡ Fine → SameCalls y (renumbered 4 y)
unfolding calls_in called_in called_with stands imports_in renumbered
calls_kept c end s g = record { calls = refl; called_alike = λ m. refl; tags = λ u. refl; imports = refl }
calls_kept c (loose b) s g = record { calls = refl; called_alike = λ m. refl; tags = λ u. refl; imports = refl }
calls_kept c (field t f i r) s g =
    let h = rest_fine 2 c t f i r g in
    let x = inner (λ n. calls_kept (within t) i s.2 (nest_fine 2 c t f i r g n).1) (nests t) refl in
    let y = calls_kept (left c t) r s.3 h in
    record {
      calls =
          ap (with_call (eqb t 0x90) (number_of (renumbered_front 4 t f)) (kinds_in (renumbered 4 i))) (ap₂ (λ (a b : List Called). a ++ b) x.calls y.calls)
          ∙ call_kept t f i (calls_in i ++ calls_in r) (eqb t 0x90) refl (λ n. (nest_fine 2 c t f i r g n).0) s.1;
      called_alike =
          λ m.
          ap₂ (λ (a b : ℕ). bit (eqb t 0x90 && begins m (renumbered_front 4 t f)) 1 + (a + b)) (x.called_alike m) (y.called_alike m)
          ∙ ap (λ (n : ℕ). bit (eqb t 0x90 && begins m (renumbered_front 4 t f)) 1 + n) (sym (called_append m (calls_in i) (calls_in r)))
          ∙ called_here m t f (kinds_in i) (calls_in i ++ calls_in r) (eqb t 0x90) refl (λ n. (nest_fine 2 c t f i r g n).0) s.1;
      tags = λ u. ap₂ (λ (a b : Bool). eqb t u || (a || b)) (x.tags u) (y.tags u);
      imports = ap (λ (fs : List Bytes). pick (eqb t 0x82) (renumbered_front 4 t f ∷ fs) fs) y.imports ∙ import_kept t f (imports_in r) (eqb t 0x82) refl;
    }
  where
    nothing : SameCalls end (renumbered 4 end)
    nothing = record { calls = refl; called_alike = λ m. refl; tags = λ u. refl; imports = refl }

    inner : (nests t ≡ true → SameCalls i (renumbered 4 i)) → (b : Bool) → nests t ≡ b → SameCalls i (renumbered 4 i)
    inner h true q = h q
    inner h false q = subst (λ (x : Row). SameCalls x (renumbered 4 x)) (sym (leaf_alone 2 t f i q s.0)) nothing

-- ---- both

module _ (t p : Bytes) (a : AllBytes t) (b : AllBytes p) (tr pr : ℕ) (w : Written) where
  pub up_changes_nothing : upgraded t p tr pr ≡ converted w → SaysTheSame t p w
  unfolding read_out check_page_out Sane
  up_changes_nothing h =
      let u = up_given t p tr pr w h in
      let g = u.2 in
      let y : Row = read_out 2 p in
      let l = or_parts (long_body g.row) (long_body (renumbered 4 y)) g.short in
      let s = sound_read Old t a u.0 in
      let k = templates_kept (read t) s (read_sane t a) g.row g.row_is (T_from_false (long_body g.row) l.0) in
      let e : read w.templates_out ≡ g.row = ap read g.templates_is ∙ read_back g.row (raised_shaped (read t) s g.row g.row_is (T_from_false (long_body g.row) l.0)) (T_from_false (long_body g.row) l.0) in
      let there : read_out 4 w.page_out ≡ renumbered 4 y = ap (read_out 4) g.page_is ∙ back (held 4) (renumbered 4 y) (rows_shaped 2 4 (λ n m. four_read n (omega arith)) y (shaped (held 2) p)) (T_from_false (long_body (renumbered 4 y)) l.1) in
      let c = calls_kept E.Whole y (sane (held 2) p b) u.1 in
      record {
        same_records = ap (records_in layout_84) e ∙ k.same_records;
        recorded_alike = λ m. ap (recorded_in m) e ∙ k.recorded_alike m;
        nothing_else = subst (AllTags 0x84) (sym e) k.nothing_else;
        all_kinded = subst (Each84 Kinded) (sym e) k.all_kinded;
        same_calls = ap calls_in there ∙ c.calls;
        called_alike = λ m. ap (called_in m) there ∙ c.called_alike m;
        same_tags = λ u. ap (stands u) there ∙ c.tags u;
        same_imports = ap imports_in there ∙ c.imports;
      }
