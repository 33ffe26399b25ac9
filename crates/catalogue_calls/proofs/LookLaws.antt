-- A page is looked for by its name, from the front on. Main statements: `looking_begins`, `looking_on`, `looking_ends`, `looking_finds`.
-- Assumes nothing.
use Prim.Native.Nat.{ℕ, ◌+◌, ◌-◌}
use mathlib.Core.Path.{◌≡◌, refl, sym, ap, ◌∙◌, subst}
use mathlib.Core.Bool.{Bool, true, false, ◌||◌}
use mathlib.Core.List.{List, [], ◌∷◌, ◌++◌, append_assoc, append-nil}
use native.Mathlib.Omega.{arith}
use lib.Dec.{eqb}
use lib.ListN.{length}
use Rattle.std.proofs.lemmas.Bool.{or_parts, or_from}
use borrow.Author.Tests.{eq-eqb, ne_eqb}
use Rattle.field.specs.Bytes.{Bytes, pick}
use Rattle.field.specs.Row.{read}
use Rattle.convert.specs.Flat.{fields_in}
use Rattle.catalogue.specs.Page.{Body, Page, A14}
use Rattle.catalogue.specs.Catalogue.{row_size, size, forms_of, present, Holds}
use Rattle.catalogue.specs.Calls.{before, without}
use Rattle.catalogue.specs.Judged.{project}
use Rattle.catalogue.proofs.Lists.{size_append, present_last}
use Rattle.catalogue.proofs.Project.{given}
use Rattle.catalogue_calls.specs.Standing.{housed, framed, IsPage}
use Rattle.catalogue_calls.specs.Leaves.{Rowed}
use Rattle.catalogue_calls.specs.Looks.{FoundAt}
use Rattle.catalogue_calls.proofs.RowedLaws.{holds_row, front, first_of, none_of, raised_count}

-- ---- lists of pages

pub size_joined : (ps qs : List Page) → row_size housed (ps ++ qs) ≡ row_size housed ps + row_size housed qs
unfolding project
size_joined ps qs = size_append (given A14) ps qs

pub size_more : (p : Page) (ps : List Page) → row_size housed (p ∷ ps) ≡ size housed p + row_size housed ps
unfolding row_size
size_more p ps = refl

pub size_none : row_size housed [] ≡ 0
unfolding row_size
size_none = refl

pub forms_joined : (ps qs : List Page) → forms_of housed (ps ++ qs) ≡ forms_of housed ps + forms_of housed qs
unfolding forms_of
forms_joined [] qs = omega arith
forms_joined (p ∷ ps) qs = omega (arith, forms_joined ps qs)

pub forms_more : (p : Page) (ps : List Page) → forms_of housed (p ∷ ps) ≡ housed.forms p.body + forms_of housed ps
unfolding forms_of
forms_more p ps = refl

pub forms_none : forms_of housed [] ≡ 0
unfolding forms_of
forms_none = refl

record At (x : ℕ) (ps : List Page) (p : Page) (qs : List Page) : Type 0 where
  there : present x (ps ++ (p ∷ qs)) ≡ true
  in_front : before x (ps ++ (p ∷ qs)) ≡ ps
  others : without x (ps ++ (p ∷ qs)) ≡ ps ++ qs

found_behind : (x : ℕ) (ps : List Page) (p : Page) (qs : List Page) → present x ps ≡ false → eqb x p.name ≡ true → At x ps p qs
unfolding present before without
found_behind x [] p qs e f = record {
  there = ap (λ (b : Bool). b || present x qs) f;
  in_front = ap (λ (b : Bool). pick b [] (p ∷ before x qs)) f;
  others = ap (λ (b : Bool). pick b qs (p ∷ without x qs)) f;
}
found_behind x (q ∷ ps) p qs e f =
    let o = or_parts (eqb x q.name) (present x ps) e in
    let h : At x ps p qs = found_behind x ps p qs o.1 f in
    record {
      there = ap (λ (b : Bool). b || present x (ps ++ (p ∷ qs))) o.0 ∙ h.there;
      in_front = ap (λ (b : Bool). pick b [] (q ∷ before x (ps ++ (p ∷ qs)))) o.0 ∙ ap (λ (l : List Page). q ∷ l) h.in_front;
      others = ap (λ (b : Bool). pick b (ps ++ (p ∷ qs)) (q ∷ without x (ps ++ (p ∷ qs)))) o.0 ∙ ap (λ (l : List Page). q ∷ l) h.others;
    }

-- ---- the walk

-- no page that was passed has the name
pub record Passed (b : Bytes) (x : ℕ) (r : Bytes) (ps : List Page) : Type 0 where
  pub gone : List Page
  pub left : List Page
  pub zeros : ℕ
  pub all_is : ps ≡ gone ++ left
  pub absent : present x gone ≡ false
  pub rowed : Rowed r (forms_of housed gone) left zeros
  pub place : row_size housed gone + length r ≡ length b

abbrev pub Looking : Bytes → ℕ → Bytes → Type 0
Looking b x r = (ps : List Page) → Holds housed b ps → Passed b x r ps

pub looking_begins : (b : Bytes) (x : ℕ) → Looking b x b
unfolding present
looking_begins b x ps h = record {
  gone = [];
  left = ps;
  zeros = length b - row_size housed ps;
  all_is = refl;
  absent = refl;
  rowed = subst (λ (n : ℕ). Rowed b n ps (length b - row_size housed ps)) (sym forms_none) (holds_row b ps h);
  place = omega (arith, size_none);
}

module _ {b r : Bytes} {x : ℕ} (k : Looking b x r) where
  pub looking_ends : framed r ≡ false → (ps : List Page) → Holds housed b ps → present x ps ≡ false
  looking_ends f ps h =
      let w = k ps h in
      ap (present x) (w.all_is ∙ ap (λ (l : List Page). w.gone ++ l) (none_of w.left w.rowed f) ∙ append-nil w.gone) ∙ w.absent

  module _ {name house : ℕ} {t q s : Bytes} (g : IsPage r name house t q s) where
    -- the page in front, and those behind it
    record Next (ps : List Page) : Type 0 where
      before_it : Passed b x r ps
      page : Page
      later : List Page
      all_is : ps ≡ before_it.gone ++ (page ∷ later)
      its_row : Rowed r (forms_of housed before_it.gone) (page ∷ later) before_it.zeros

    next : (ps : List Page) → Holds housed b ps → Next ps
    next ps h =
        let w = k ps h in
        let d = first_of w.left w.rowed g.is_framed in
        record {
          before_it = w;
          page = d.page;
          later = d.later;
          all_is = w.all_is ∙ ap (λ (l : List Page). w.gone ++ l) d.all_is;
          its_row = subst (λ (l : List Page). Rowed r (forms_of housed w.gone) l w.zeros) d.all_is w.rowed;
        }

    pub looking_on : (name ≡ x → ⊥) → Looking b x s
    looking_on n ps h =
        let v = next ps h in
        let w = v.before_it in
        let p : Page = v.page in
        let f = front v.its_row in
        let e : eqb x p.name ≡ false = ne_eqb x p.name (λ y. n (g.name_is ∙ f.name_is ∙ sym y)) in
        let m : forms_of housed w.gone + housed.forms p.body ≡ forms_of housed (w.gone ++ (p ∷ [])) = omega (arith, forms_joined w.gone (p ∷ []), forms_more p [], forms_none) in
        record {
          gone = w.gone ++ (p ∷ []);
          left = v.later;
          zeros = w.zeros;
          all_is = v.all_is ∙ sym (append_assoc w.gone (p ∷ []) v.later);
          absent = present_last x w.gone p w.absent e;
          rowed = subst (λ (i : ℕ). Rowed s i v.later w.zeros) m (subst (λ (y : Bytes). Rowed y (forms_of housed w.gone + housed.forms p.body) v.later w.zeros) (sym g.behind_is) f.left);
          place = omega (arith, size_joined w.gone (p ∷ []), size_more p [], size_none, w.place, f.long, ap length g.behind_is);
        }

    pub looking_finds : name ≡ x → {at last forms : ℕ} → at ≡ length b - length r → last ≡ length b - length s → forms ≡ fields_in (read t)
        → (ps : List Page) → Holds housed b ps → FoundAt x ps at last forms
    unfolding project
    looking_finds n {at} {last} {forms} ea el ef ps h =
        let v = next ps h in
        let w = v.before_it in
        let p : Page = v.page in
        let f = front v.its_row in
        let o = found_behind x w.gone p v.later w.absent (eq-eqb x p.name (sym n ∙ g.name_is ∙ f.name_is)) in
        let c : forms ≡ housed.forms p.body =
        ef ∙ ap (λ (y : Bytes). fields_in (read y)) (g.templates_is ∙ ap (λ (y : Body). y.templates) f.body_is) ∙ raised_count (forms_of housed w.gone) p.body f.is_sound.of_bytes f.is_sound.judged in
        let i₀ = ap (row_size housed) v.all_is ∙ size_joined w.gone (p ∷ v.later) in
        let i₁ = ap (λ (l : List Page). row_size housed (without x l)) v.all_is ∙ ap (row_size housed) o.others ∙ size_joined w.gone v.later in
        let i₂ = ap (forms_of housed) v.all_is ∙ forms_joined w.gone (p ∷ v.later) in
        let i₃ = ap (λ (l : List Page). forms_of housed (without x l)) v.all_is ∙ ap (forms_of housed) o.others ∙ forms_joined w.gone v.later in
        record {
          is_present = ap (present x) v.all_is ∙ o.there;
          at_is = omega (arith, w.place) ∙ ap (row_size housed) (sym o.in_front) ∙ ap (λ (l : List Page). row_size housed (before x l)) (sym v.all_is);
          last_is = omega (arith, i₀, i₁, size_more p v.later, w.place, f.long, ap length g.behind_is);
          forms_is = omega (arith, i₂, i₃, forms_more p v.later, c);
        }
