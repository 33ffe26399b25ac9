-- What is found of an element that is serialized: the options do not matter to it, and the code raises the graver. Main statements:
-- `flags_same`, `repeated_due`, `mixed_due`, `no_due`. Assumes nothing.
use mathlib.Core.Path.{◌≡◌, refl, sym, ap, ◌∙◌}
use mathlib.Core.Bool.{Bool, true, false, ◌&&◌, ◌||◌, not}
use mathlib.Core.List.{List, [], ◌∷◌}
use Rattle.field.specs.Bytes.{Bytes, pick, among}
use Rattle.field.specs.Row.{read}
use Rattle.names.specs.Names.{get_attr_name, is_void_element, small_letters}
use Rattle.page.specs.Page as P
use Rattle.page.specs.Page.{Options}
use Rattle.page.specs.Tree.{attributes_in}
use Rattle.spec.specs.Attributes.{html_names, repeats, void_when_lowered, tag_flags}
use Rattle.spec.specs.Transform.{attributes}
use Rattle.spec.specs.declared.Flags.{Flags}
use Rattle.decisions.specs.At.{opts}
use Rattle.decisions.specs.Repeats as R
use Rattle.strings.specs.declared.due.Due.{Due}
use Rattle.strings.specs.declared.due.Due.TheVariants.{Mixed, Repeated}
use Rattle.strings.specs.Due.{graver, due_if, grave}
use Rattle.strings.specs.Carve.{flags_at}
use Rattle.strings.proofs.DueLaws.{graver_none, tag_grave}

-- ---- the options do not matter

-- the names by the attributes of the page, as the code finds them
names_are : (o : Options) (as' : P.Attributes) → html_names (attributes o as') ≡ R.html_names as'
unfolding attributes html_names R.html_names R.html_name
names_are o P.no_attributes = refl
names_are o (P.attribute n v as') = ap (λ (ns : List Bytes). small_letters (get_attr_name n true) ∷ ns) (names_are o as')
names_are o (P.spread_attribute e as') = names_are o as'

repeats_are : (ns : List Bytes) → repeats ns ≡ R.repeats ns
unfolding repeats R.repeats
repeats_are [] = refl
repeats_are (n ∷ ns) = ap (λ (b : Bool). among n ns || b) (repeats_are ns)

abbrev found : Bytes → List Bytes → Flags
found n ns = record { left = false; long = false; repeated = repeats ns; mixed = void_when_lowered n }

pub flags_same : (o o' : Options) (n : Bytes) (as' : P.Attributes) → tag_flags n (attributes o as') ≡ tag_flags n (attributes o' as')
unfolding tag_flags
flags_same o o' n as' = ap (found n) (names_are o as' ∙ sym (names_are o' as'))

-- ---- what the code raises

module _ (d : Due) (n r : Bytes) where
  abbrev twice : Bool
  twice = repeats (html_names (attributes (opts [] []) (attributes_in (read r))))

  due_by : graver d (grave (flags_at n r)) ≡ graver d (pick twice Repeated (due_if Mixed (void_when_lowered n)))
  unfolding tag_flags
  due_by = ap (graver d) (tag_grave twice (void_when_lowered n))

  module _ {x : Bool} (f : x ≡ R.repeats (R.html_names (attributes_in (read r)))) where
    told : {y : Bool} → x ≡ y → twice ≡ y
    told h = ap repeats (names_are (opts [] []) (attributes_in (read r))) ∙ repeats_are (R.html_names (attributes_in (read r))) ∙ sym f ∙ h

    pub repeated_due : x ≡ true → {z : Due} → z ≡ graver d Repeated → z ≡ graver d (grave (flags_at n r))
    repeated_due h q = q ∙ sym (due_by ∙ ap (λ (b : Bool). graver d (pick b Repeated (due_if Mixed (void_when_lowered n)))) (told h))

    module _ (h : x ≡ false) {m : Bool} (e : m ≡ (is_void_element (small_letters n) && not (is_void_element n))) where
      once : {y : Bool} → m ≡ y → graver d (grave (flags_at n r)) ≡ graver d (due_if Mixed y)
      unfolding void_when_lowered
      once k = due_by ∙ ap (λ (b : Bool). graver d (pick b Repeated (due_if Mixed (void_when_lowered n)))) (told h) ∙ ap (λ (b : Bool). graver d (due_if Mixed b)) (sym e ∙ k)

      pub mixed_due : m ≡ true → {z : Due} → z ≡ graver d Mixed → z ≡ graver d (grave (flags_at n r))
      mixed_due k q = q ∙ sym (once k)

      pub no_due : m ≡ false → d ≡ graver d (grave (flags_at n r))
      no_due k = sym (once k ∙ graver_none d)
