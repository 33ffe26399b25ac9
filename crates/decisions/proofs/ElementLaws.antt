-- What the code of src/element.rt learns. Main statements: `forbids_50`, `forbids_53`, `serializable_upper`, `never_serializable` and the
-- like. Assumes nothing.
use Rattle.std.specs.Prelude.{Option, Some, None}
use mathlib.Core.Path.{◌≡◌, refl, sym, ap, subst, ◌∙◌}
use mathlib.Core.Bool.{Bool, true, false, ◌||◌, not, and-false, and-true}
use Prim.Native.Nat.{ℕ}
use mathlib.Core.List.{[]}
use denote.Ref.{Bor}
use lib.ListN.{length}
use Rattle.field.specs.Bytes.{Bytes, ascii, same, among}
use Rattle.field.specs.Row.{Row, read, Ended}
use Rattle.field.specs.Front.{tag_of_front, body_of, behind_of}
use Rattle.field.proofs.FrontLaws.{read_empty}
use Rattle.names.specs.Names.{get_attr_name}
use Rattle.page.specs.Page.{identifier}
use Rattle.page.specs.Tree.{attributes_in, attr_name_in}
use Rattle.spec.specs.Attributes.{first_upper}
use Rattle.decisions.specs.Index.{names_of}
use Rattle.decisions.specs.At.{element_name, element_named, identifier_bytes, forbids, serializable_by, serializable}
use Rattle.decisions.specs.Repeats.{Told, AttributesTold, SerializedTold}
use Rattle.decisions.specs.declared.repeats.Names.{Names}
use Rattle.decisions.specs.declared.element.ElementName.{ElementName}
use Rattle.decisions.specs.declared.element.ElementName.TheVariants as Named
use Rattle.decisions.proofs.Series.{tested, name_41, name_42, name_other, behind_name_at, attributes_none, attributes_50, attributes_53, attributes_other}

-- ---- names

pub identifier_other : (s : Bytes) (t : ℕ) → t ≡ tag_of_front s → (t ≡ 0x40 → ⊥) → [] ≡ identifier_bytes (element_name (read s))
identifier_other s t e n =
    tested t 0x41 (λ k. sym (ap identifier_bytes (name_41 s t e k))) λ a.
    tested t 0x42 (λ k. sym (ap identifier_bytes (name_42 s t e k))) λ b.
    sym (ap identifier_bytes (name_other s t e n a b))

-- ---- what keeps an element from being serialized

module _ (s : Bytes) (t : ℕ) (e : t ≡ tag_of_front s) where
  module _ (k : t ≡ 0x50) {b : Bytes} (q : b ≡ body_of s) {v : Bool} (g : v ≡ same (get_attr_name (attr_name_in (read b)) false) (ascii "dangerouslySetInnerHTML")) where
    in_front : forbids (attributes_in (read s)) ≡ (v || forbids (attributes_in (read (behind_of s))))
    unfolding forbids
    in_front = ap forbids (attributes_50 s t e k) ∙ rw (g, q)

    pub forbids_50 : v ≡ true → true ≡ forbids (attributes_in (read s))
    forbids_50 h = sym (in_front ∙ rw h)

    pub forbids_on : v ≡ false → {r : Bytes} → r ≡ behind_of s → forbids (attributes_in (read r)) ≡ forbids (attributes_in (read s))
    forbids_on h {r} u = sym (in_front ∙ rw (h, u))

  pub forbids_53 : t ≡ 0x53 → true ≡ forbids (attributes_in (read s))
  unfolding forbids
  forbids_53 k = sym (ap forbids (attributes_53 s t e k))

  pub forbids_other : (t ≡ 0x50 → ⊥) → (t ≡ 0x53 → ⊥) → false ≡ forbids (attributes_in (read s))
  unfolding forbids
  forbids_other a b = sym (ap forbids (attributes_other s t e a b))

pub forbids_empty : (s : Bytes) → length s ≡ 0 → forbids (attributes_in (read s)) ≡ false
unfolding forbids attributes_in
forbids_empty s h = ap (λ (r : Row). forbids (attributes_in r)) (read_empty s h)

pub forbids_none : (s : Bytes) → Ended (read s) → false ≡ forbids (attributes_in (read s))
unfolding forbids
forbids_none s i = sym (ap forbids (attributes_none (read s) i))

-- ---- is_serializable: k has the names of 02

module _ (k s : Bytes) {n : Bytes} (e : identifier n ≡ element_name (read s)) {u : Bool} (q : u ≡ first_upper n) where
  pub serializable_upper : u ≡ true → false ≡ serializable k s
  unfolding serializable serializable_by
  serializable_upper h = rw (← e, ← q, h)

  pub serializable_listed : {v : Bool} → v ≡ among n (names_of k) → v ≡ true → false ≡ serializable k s
  unfolding serializable serializable_by
  serializable_listed listed h = rw (← e, ← listed, h, and-false (not (first_upper n)))

  -- r lies behind the name
  module _ (low : u ≡ false) {r : Bytes} (y : r ≡ behind_of s) {x : Bool} (z : x ≡ forbids (attributes_in (read r))) where
    pub serializable_kept : x ≡ true → false ≡ serializable k s
    unfolding serializable serializable_by
    serializable_kept h = rw (← e, behind_name_at s, ← y, ← z, h, and-false (not (among n (names_of k))), and-false (not (first_upper n)))

    pub serializable_rest : x ≡ false → {v : Bool} → v ≡ among n (names_of k) → not v ≡ serializable k s
    unfolding serializable serializable_by
    serializable_rest h {v} listed = rw (← e, behind_name_at s, ← y, ← z, h, ← q, low, ← listed, and-true (not v))

  -- by what was told behind the name of one that is not listed
  pub told_serialized : (low : u ≡ false) → {r : Bytes} → r ≡ behind_of s → {v : Bool} → v ≡ among n (names_of k) → v ≡ false → (o : Option Names) → AttributesTold r o → SerializedTold k s o
  told_serialized low {r} y listed h None t = sym (serializable_kept low y refl t)
  told_serialized low {r} y listed h (Some m) t = (sym (serializable_rest low y refl t.0 listed) ∙ ap not h, subst (λ w. Told w m) y t.1)

-- any name but an identifier
pub never_serializable : (k s : Bytes) (x : ElementName) → element_named x ≡ element_name (read s) → ((n : Bor Bytes) → x ≡ Named.Identifier n → ⊥) → false ≡ serializable k s
unfolding serializable serializable_by
never_serializable k s (Named.Identifier n) e h = absurd (h n refl)
never_serializable k s (Named.Member ns) e h = rw (← e)
never_serializable k s (Named.Namespaced ns n) e h = rw (← e)
