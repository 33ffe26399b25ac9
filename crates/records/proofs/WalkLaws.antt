-- The two loops in the functions' own words: t is left of the series s, and the walk, which began at start, stands at w.
-- Main statements: `element_room`, `element_on` and the like for each kind of child in both loops; `parts_end`, `entries_end`. Assumes nothing.
use mathlib.Core.Path.{◌≡◌, refl, sym, ◌∙◌, subst}
use Prim.Native.Nat.{ℕ, ◌+◌, ◌*◌, ◌≤◌, ◌<◌}
use native.Mathlib.Omega.{arith}
use mathlib.Core.List.{[], ◌∷◌}
use mathlib.Core.Bool.{false}
use lib.ListN.{length}
use Rattle.field.specs.Bytes.{Bytes}
use Rattle.field.specs.Row.{read, Ended}
use Rattle.field.specs.Fields.{IsFront}
use Rattle.field.proofs.Actions.{by, on, room, finish}
use Rattle.spec.specs.Output.{dynamic_exprs}
use Rattle.spec.specs.Merge.{passed, merge}
use Rattle.spec.specs.Children.{children_to_string, children_to_expr, serialize_jsx, entries, entries_pass, found_pass, spliced}
use Rattle.decisions.specs.At.{element_at, children_at}
use Rattle.records.specs.Keep.{Kept, keep, Low, Room}
use Rattle.records.proofs.KeepLaws.{parts, parts_low, entered, entered_low}
use Rattle.records.proofs.ChildLaws.{within, called, parts_within, merged_called, entries_one, spliced_found}
use Rattle.records.proofs.ReadLaws.{within_30, within_31, within_past, within_none, called_30, called_31, called_past, called_none}

-- ---- children in a template

-- what is left records from here on what the whole records from the start
pub record Parts (k p s : Bytes) (start : Kept) (desk scratch t : Bytes) (w : Kept) : Type 0 where
  pub sized : length scratch ≡ length desk
  pub shorter : length t ≤ length s
  pub left : keep (dynamic_exprs (within (children_at k p (read t)))) w ≡ keep (dynamic_exprs (children_to_string false (children_at k p (read s)))) start

pub parts_start : (k p s : Bytes) (start : Kept) (desk : Bytes) → Parts k p s start desk desk s start
parts_start k p s start desk = record { sized = refl; shorter = omega arith; left = sym (parts_within false (children_at k p (read s)) start) }

module _ {k p s : Bytes} {start : Kept} {desk scratch t : Bytes} {w : Kept} (m : Parts k p s start desk scratch t w) where
  abbrev all_parts : Kept
  all_parts = keep (dynamic_exprs (children_to_string false (children_at k p (read s)))) start

  pub parts_end : Ended (read t) → w ≡ all_parts
  parts_end h = finish parts (by parts (within_none k p t h) m.left)

  -- a field stands in front, of tag n and body b, and r lies behind it
  module _ {n : ℕ} {b r : Bytes} (f : IsFront t n b r) where
    pub part_falls : 8 * length b + 3 < 8 * length s
    part_falls = omega (arith, m.shorter, f.sizes)

    module _ (g : n ≡ 0x30) where
      pub element_room : Room desk s all_parts → Room scratch b (keep (dynamic_exprs (element_at k p b).to_string_vec) w)
      element_room l =
          record {
            desk = omega (arith, l.desk, m.sized);
            short = omega (arith, l.short, m.shorter, f.sizes);
            low = room parts parts_low (element_at k p b).to_string_vec (by parts (within_30 k p t n f.tag_is f.behind_is g f.body_is) m.left) l.low;
          }

      pub element_on : {z : Bytes} → length z ≡ length scratch → {w' : Kept} → w' ≡ keep (dynamic_exprs (element_at k p b).to_string_vec) w → Parts k p s start desk z r w'
      element_on q d =
          record {
            sized = q ∙ m.sized;
            shorter = omega (arith, m.shorter, f.sizes);
            left = on parts (element_at k p b).to_string_vec (by parts (within_30 k p t n f.tag_is f.behind_is g f.body_is) m.left) d;
          }

    module _ (g : n ≡ 0x31) where
      pub kids_room : Room desk s all_parts → Room scratch b (keep (dynamic_exprs (children_to_string false (children_at k p (read b)))) w)
      kids_room l =
          record {
            desk = omega (arith, l.desk, m.sized);
            short = omega (arith, l.short, m.shorter, f.sizes);
            low = room parts parts_low (children_to_string false (children_at k p (read b))) (by parts (within_31 k p t n f.tag_is f.behind_is g f.body_is) m.left) l.low;
          }

      pub kids_on : {z : Bytes} → length z ≡ length scratch → {w' : Kept} → w' ≡ keep (dynamic_exprs (children_to_string false (children_at k p (read b)))) w → Parts k p s start desk z r w'
      kids_on q d =
          record {
            sized = q ∙ m.sized;
            shorter = omega (arith, m.shorter, f.sizes);
            left = on parts (children_to_string false (children_at k p (read b))) (by parts (within_31 k p t n f.tag_is f.behind_is g f.body_is) m.left) d;
          }

    pub parts_past : (n ≡ 0x30 → ⊥) → (n ≡ 0x31 → ⊥) → Parts k p s start desk scratch r w
    parts_past x y =
        record {
          sized = m.sized;
          shorter = omega (arith, m.shorter, f.sizes);
          left = by parts (within_past k p t n f.tag_is f.behind_is (λ z. omega (arith, f.tag_below, z)) x y) m.left;
        }

-- ---- children of a call

pub record Entries (k p s : Bytes) (start : Kept) (desk scratch t : Bytes) (w : Kept) : Type 0 where
  pub sized : length scratch ≡ length desk
  pub shorter : length t ≤ length s
  pub left : keep (entries_pass (called (children_at k p (read t)))) w ≡ keep (entries_pass (entries (merge false false [] (children_at k p (read s))))) start

pub entries_start : (k p s : Bytes) (start : Kept) (desk : Bytes) → Entries k p s start desk desk s start
entries_start k p s start desk = record { sized = refl; shorter = omega arith; left = sym (merged_called false false [] (children_at k p (read s)) start) }

module _ {k p s : Bytes} {start : Kept} {desk scratch t : Bytes} {w : Kept} (m : Entries k p s start desk scratch t w) where
  abbrev all_entries : Kept
  all_entries = keep (entries_pass (entries (merge false false [] (children_at k p (read s))))) start

  pub entries_end : Ended (read t) → w ≡ all_entries
  entries_end h = finish entered (by entered (called_none k p t h) m.left)

  module _ {n : ℕ} {b r : Bytes} (f : IsFront t n b r) where
    pub entry_falls : 8 * length b + 3 < 8 * length s
    entry_falls = omega (arith, m.shorter, f.sizes)

    module _ (g : n ≡ 0x30) where
      pub serialize_room : Room desk s all_entries → Room scratch b (keep (serialize_jsx (element_at k p b)) w)
      serialize_room l =
          record {
            desk = omega (arith, l.desk, m.sized);
            short = omega (arith, l.short, m.shorter, f.sizes);
            low = subst Low (entries_one (serialize_jsx (element_at k p b)) w) (room entered entered_low (passed (serialize_jsx (element_at k p b)) ∷ []) (by entered (called_30 k p t n f.tag_is f.behind_is g f.body_is) m.left) l.low);
          }

      pub serialize_on : {z : Bytes} → length z ≡ length scratch → {w' : Kept} → w' ≡ keep (serialize_jsx (element_at k p b)) w → Entries k p s start desk z r w'
      serialize_on q d =
          record {
            sized = q ∙ m.sized;
            shorter = omega (arith, m.shorter, f.sizes);
            left = on entered (passed (serialize_jsx (element_at k p b)) ∷ []) (by entered (called_30 k p t n f.tag_is f.behind_is g f.body_is) m.left) (d ∙ sym (entries_one (serialize_jsx (element_at k p b)) w));
          }

    module _ (g : n ≡ 0x31) where
      pub found_room : Room desk s all_entries → Room scratch b (keep (found_pass (children_to_expr (children_at k p (read b)))) w)
      found_room l =
          record {
            desk = omega (arith, l.desk, m.sized);
            short = omega (arith, l.short, m.shorter, f.sizes);
            low = subst Low (spliced_found (children_to_expr (children_at k p (read b))) w) (room entered entered_low (spliced (children_to_expr (children_at k p (read b)))) (by entered (called_31 k p t n f.tag_is f.behind_is g f.body_is) m.left) l.low);
          }

      pub found_on : {z : Bytes} → length z ≡ length scratch → {w' : Kept} → w' ≡ keep (found_pass (children_to_expr (children_at k p (read b)))) w → Entries k p s start desk z r w'
      found_on q d =
          record {
            sized = q ∙ m.sized;
            shorter = omega (arith, m.shorter, f.sizes);
            left = on entered (spliced (children_to_expr (children_at k p (read b)))) (by entered (called_31 k p t n f.tag_is f.behind_is g f.body_is) m.left) (d ∙ sym (spliced_found (children_to_expr (children_at k p (read b))) w));
          }

    pub entries_past : (n ≡ 0x30 → ⊥) → (n ≡ 0x31 → ⊥) → Entries k p s start desk scratch r w
    entries_past x y =
        record {
          sized = m.sized;
          shorter = omega (arith, m.shorter, f.sizes);
          left = by entered (called_past k p t n f.tag_is f.behind_is (λ z. omega (arith, f.tag_below, z)) x y) m.left;
        }
