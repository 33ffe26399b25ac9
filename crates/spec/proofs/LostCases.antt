-- Each of the four places loses what stands in it, from bytes to bytes: a page with one 74, accepted, and a page out without one. So none of
-- the clauses of `in_page` could count it. Main statement: `lost_cases`. Assumes nothing.
use Prim.Native.Nat.{ℕ}
use mathlib.Core.Path.{◌≡◌, refl}
use mathlib.Core.List.{[], ◌++◌}
use Rattle.field.specs.Bytes.{Bytes, ascii}
use Rattle.field.specs.Row.{read}
use Rattle.spec.specs.Answer.{outcome}
use Rattle.spec.specs.Kept.{in_row}
use Rattle.spec.specs.Marks.{reply, fld}
use Rattle.spec.proofs.Marks.{computed}

-- the number of the answer; how many 74s stand in the page, and in page out
record Counted : Type 0 where
  number : ℕ
  before : ℕ
  after : ℕ

literals_in : Bytes → ℕ
unfolding in_row computed
literals_in b = in_row (λ c. 1) (λ cs. 0) (read b)

counted : (page options : Bytes) → Counted
unfolding computed reply literals_in
counted page options =
    let r = reply (outcome page options 65536 65536 65536) in
    record { number = r.number; before = literals_in page; after = literals_in r.page_out }

-- a page of one statement that is a tag
abbrev page_of : Bytes → Bytes
page_of t = fld 0x01 (fld 0x12 t)

abbrev name : Bytes → Bytes
name n = fld 0x40 n

-- `{/a/}`
abbrev held : Bytes
held = fld 0x52 (fld 0x74 (ascii "/a/"))

abbrev key : Bytes → Bytes
key v = fld 0x50 (name (ascii "key") ++ v)

abbrev lost : Counted
lost = record { number = 0; before = 1; after = 0 }

abbrev kept : Counted
kept = record { number = 0; before = 1; after = 1 }

record Lost : Type 0 where
  -- `<br>{/a/}</br>`
  void_children : counted (page_of (fld 0x30 (name (ascii "br") ++ held))) [] ≡ lost
  -- `<p a=<i>{/a/}</i>/>`, and the same of a call `<P b=…/>`, though `b` is listed
  tag_value : counted (page_of (fld 0x30 (name (ascii "p") ++ fld 0x50 (name (ascii "a") ++ fld 0x30 (name (ascii "i") ++ held))))) [] ≡ lost
  tag_value_in_a_call : counted (page_of (fld 0x30 (name (ascii "P") ++ fld 0x50 (name (ascii "b") ++ fld 0x30 (name (ascii "i") ++ held))))) (fld 0x03 (fld 0x20 (ascii "b"))) ≡ lost
  -- `<P key={/a/} key="b"/>`, and an empty key takes it too
  earlier_key : counted (page_of (fld 0x30 (name (ascii "P") ++ (key held ++ key (fld 0x51 (ascii "b")))))) [] ≡ lost
  emptied_key : counted (page_of (fld 0x30 (name (ascii "P") ++ (key held ++ key (fld 0x52 []))))) [] ≡ lost
  -- `<p>{.../a/}</p>`
  spread_child : counted (page_of (fld 0x30 (name (ascii "p") ++ fld 0x61 (fld 0x74 (ascii "/a/"))))) [] ≡ lost
  -- the same of a call, `<P>a{.../a/}</P>`
  spread_child_of_a_call : counted (page_of (fld 0x30 (name (ascii "P") ++ (fld 0x60 (ascii "a") ++ fld 0x61 (fld 0x74 (ascii "/a/")))))) [] ≡ lost
  -- and nothing is lost, or doubled, of `<p a={/a/}/>`, `<P>{/a/}</P>`, `<P>a{/a/}</P>`, `<P key={/a/}/>` and, with `a` listed, `<p a={/a/}/>`
  attribute : counted (page_of (fld 0x30 (name (ascii "p") ++ fld 0x50 (name (ascii "a") ++ held)))) [] ≡ kept
  only_child : counted (page_of (fld 0x30 (name (ascii "P") ++ held))) [] ≡ kept
  child_among_others : counted (page_of (fld 0x30 (name (ascii "P") ++ (fld 0x60 (ascii "a") ++ held)))) [] ≡ kept
  only_key : counted (page_of (fld 0x30 (name (ascii "P") ++ key held))) [] ≡ kept
  listed_attribute : counted (page_of (fld 0x30 (name (ascii "p") ++ fld 0x50 (name (ascii "a") ++ held)))) (fld 0x03 (fld 0x20 (ascii "a"))) ≡ kept

lost_cases : Lost
unfolding counted literals_in computed reply in_row
lost_cases = record { void_children = refl; tag_value = refl; tag_value_in_a_call = refl; earlier_key = refl; emptied_key = refl; spread_child = refl; spread_child_of_a_call = refl; attribute = refl; only_child = refl; child_among_others = refl; only_key = refl; listed_attribute = refl }
