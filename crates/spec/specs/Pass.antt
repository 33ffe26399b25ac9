-- Passes: what 000 does with its state. A pass reads the next number and gives a value, how many numbers it took, the templates that it
-- recorded and its flags. Between its two passes 000 holds expressions in which tags still stand (`Mid`). Assumes nothing: these are definitions.
use Rattle.std.specs.Prelude.{ℕ, ◌+◌, Bool, false, ◌||◌, List, [], ◌∷◌, ◌++◌, ltb, length}
use Rattle.field.specs.Bytes.{Bytes}
use Rattle.field.specs.Row.{Row, end, loose, field}
use Rattle.spec.specs.declared.Flags.{Flags}

abbrev pub no_flags : Flags
no_flags = record { left = false; long = false; repeated = false; mixed = false }

abbrev pub join : Flags → Flags → Flags
join f g = record { left = f.left || g.left; long = f.long || g.long; repeated = f.repeated || g.repeated; mixed = f.mixed || g.mixed }

-- 01, Form: its number and its static strings; for each dynamic expression whether it is a jsxAttr call or a choice, which no 80 holds
pub record Template : Type 0 where
  pub number : ℕ
  pub strings : List Bytes
  pub kinds : List Bool

pub record Done (A : Type 0) : Type 0 where
  pub value : A
  pub taken : ℕ
  pub templates : List Template
  pub flags : Flags

-- from the next number on
abbrev pub Pass : Type 0 → Type 0
Pass A = ℕ → Done A

unfoldable pub pure : {A : Type 0} → A → Pass A
pure a n = record { value = a; taken = 0; templates = []; flags = no_flags }

unfoldable pub map : {A B : Type 0} → (A → B) → Pass A → Pass B
map f p n = let r = p n in record { value = f r.value; taken = r.taken; templates = r.templates; flags = r.flags }

-- one pass, and another that goes by its value
unfoldable pub bind : {A B : Type 0} → Pass A → (A → Pass B) → Pass B
bind p k n =
    let r = p n in
    let s = k r.value (n + r.taken) in
    record { value = s.value; taken = r.taken + s.taken; templates = r.templates ++ s.templates; flags = join r.flags s.flags }

-- two passes in a row
unfoldable pub both : {A B C : Type 0} → (A → B → C) → Pass A → Pass B → Pass C
both f p q n =
    let r = p n in
    let s = q (n + r.taken) in
    record { value = f r.value s.value; taken = r.taken + s.taken; templates = r.templates ++ s.templates; flags = join r.flags s.flags }

-- a pass that also raises flags
unfoldable pub raise : {A : Type 0} → Flags → Pass A → Pass A
raise f p n = let r = p n in record { value = r.value; taken = r.taken; templates = r.templates; flags = join f r.flags }

abbrev pub long_if : Bool → Flags
long_if b = record { left = false; long = b; repeated = false; mixed = false }

-- a tag that stands as an expression: its visit
abbrev pub Raw : Type 0
Raw = Pass Row

-- a row of expressions after the first pass: fields, and tags that are still to be visited
pub data Mid : Type 0 where
  none : Mid
  node : (tag : ℕ) (front : Bytes) (inner rest : Mid) → Mid
  raw : Raw → Mid → Mid

infixr 65 ◌+++◌
unfoldable pub ◌+++◌ : Mid → Mid → Mid
none +++ y = y
(node t f i r) +++ y = node t f i (r +++ y)
(raw t r) +++ y = raw t (r +++ y)

-- two rows of fields, one behind the other; loose bytes are no field, and go
infixr 65 ◌⧺◌
unfoldable pub ◌⧺◌ : Row → Row → Row
end ⧺ y = y
(loose b) ⧺ y = y
(field t f i r) ⧺ y = field t f i (r ⧺ y)

-- what a template is made of: `strings.last_mut().push_str(..)`, and `strings.push("")` with `dynamic_exprs.push(..)`. A gap holds a pass
-- and not its result, so that the strings depend on no number. A mark is no part of the strings: its flags are raised where the template is
-- made
pub data Part : Type 0 where
  chars : Bytes → Part
  gap : Pass Mid → Part
  mark : Flags → Part

-- the flags of all marks
unfoldable pub marks : List Part → Flags
marks [] = no_flags
marks (chars b ∷ ps) = marks ps
marks (gap p ∷ ps) = marks ps
marks (mark f ∷ ps) = join f (marks ps)

-- 01, 11: a body or a merged run over 65,535. Only a run that is merged a second time is looked at by itself: one of the last merge stands
-- whole in a static string or in a 70, so that a body is too long as well (`run_in_template`, `run_in_call`)
abbrev pub over : Bytes → Bool
over b = ltb 65535 (length b)
