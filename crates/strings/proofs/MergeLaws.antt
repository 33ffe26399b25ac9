-- Merging does not matter to the open string: a run is written whole or child by child. `direct` is what a walk writes as it goes.
-- Main statements: `to_string_direct`, `twice_text` and the like. Assumes nothing.
use mathlib.Core.Path.{◌≡◌, refl, sym, ap, ◌∙◌}
use mathlib.Core.Bool.{Bool, true, false, ◌&&◌, ◌||◌}
use mathlib.Core.List.{List, [], ◌∷◌, ◌++◌}
use mathlib.Core.Option.{Option, none, some}
use lib.Dec.{ltb}
use lib.ListN.{length}
use Rattle.field.specs.Bytes.{Bytes, pick}
use Rattle.text.specs.Escape.{escape_html}
use Rattle.text.specs.Lines.{lines}
use Rattle.text.specs.Text.{jsx_text_to_str, joined, kept, trimmed_lines, escape_if}
use Rattle.spec.specs.Pass.{Part, chars, gap, pure, Mid}
use Rattle.spec.specs.Merge.{Shape, Child, Element, Fragment, text, empty, container, element, fragment, spread, is_last, flush, joined_text, merge, long_run, short_runs}
use Rattle.spec.specs.Children.{maybe_wrap, merged_parts, children_to_string}
use Rattle.strings.specs.declared.due.Due.{Due}
use Rattle.strings.specs.declared.due.Due.TheVariants.{Long}
use Rattle.strings.specs.Due.{long_due}
use Rattle.strings.specs.Carve.{Carved, put_on, close, carve, flagged, child_parts, put_again, Low}
use Rattle.strings.proofs.DueLaws.{due_or}
use Rattle.strings.proofs.CarveLaws.{carving, lows, put_on_nil, put_on_append, flagged_none, flagged_twice, carve_flagged}

-- the parts of a child that more or no children follow
unfoldable pub child_direct : Bool → Child → List Part
child_direct last (text t) = chars (jsx_text_to_str t true last) ∷ []
child_direct last empty = []
child_direct last (container s m) = child_parts s m
child_direct last (element e) = e.to_string_vec
child_direct last (fragment f) = f.to_string
child_direct last (spread m) = []

unfoldable pub direct : Bool → List Child → List Part
direct par [] = []
direct par (c ∷ cs) = child_direct (par && is_last cs) c ++ direct par cs

-- a run, flushed
flush_carve : (buf : Bytes) (cs : List Child) (w : Carved) → carve (merged_parts (flush buf cs)) w ≡ carve (merged_parts cs) (put_on buf w)
unfolding carve flush merged_parts
flush_carve [] cs w = ap (carve (merged_parts cs)) (sym (put_on_nil w))
flush_carve (b ∷ buf) cs w = refl

merge_direct : (par : Bool) (buf : Bytes) (cs : List Child) (w : Carved) → carve (merged_parts (merge true par buf cs)) w ≡ carve (direct par cs) (put_on buf w)
unfolding carve merge merged_parts direct child_direct child_parts
merge_direct par buf [] w = flush_carve buf [] w
merge_direct par buf (text t ∷ cs) w =
    let j : Bytes = jsx_text_to_str t true (par && is_last cs) in
    merge_direct par (buf ++ j) cs w ∙ ap (carve (direct par cs)) (sym (put_on_append buf j w))
merge_direct par buf (empty ∷ cs) w = merge_direct par buf cs w
merge_direct par buf (container s m ∷ cs) w = on (joined_text s) (λ b. merge_direct par (buf ++ b) cs w) (merge_direct par [] cs (close (put_on buf w)))
  where
    on : (j : Option Bytes) →
        ((b : Bytes) → carve (merged_parts (merge true par (buf ++ b) cs)) w ≡ carve (direct par cs) (put_on (buf ++ b) w)) →
        carve (merged_parts (merge true par [] cs)) (close (put_on buf w)) ≡ carve (direct par cs) (put_on [] (close (put_on buf w))) →
        carve (merged_parts (elim j [ some b ↦ merge true par (buf ++ b) cs | none ↦ flush buf (container s m ∷ merge true par [] cs) ])) w
        ≡ carve ((elim j [ some b ↦ chars b ∷ [] | none ↦ gap (pure (maybe_wrap s m)) ∷ [] ]) ++ direct par cs) (put_on buf w)
    on (some b) f g = f b ∙ ap (carve (direct par cs)) (sym (put_on_append buf b w))
    on none f g = flush_carve buf (container s m ∷ merge true par [] cs) w ∙ g ∙ ap (carve (direct par cs)) (put_on_nil (close (put_on buf w)))
merge_direct par buf (element e ∷ cs) w =
    let v : Carved = carve e.to_string_vec (put_on buf w) in
    flush_carve buf (element e ∷ merge true par [] cs) w
    ∙ carving.append e.to_string_vec (merged_parts (merge true par [] cs)) (put_on buf w)
    ∙ merge_direct par [] cs v ∙ ap (carve (direct par cs)) (put_on_nil v) ∙ sym (carving.append e.to_string_vec (direct par cs) (put_on buf w))
merge_direct par buf (fragment f ∷ cs) w =
    let v : Carved = carve f.to_string (put_on buf w) in
    flush_carve buf (fragment f ∷ merge true par [] cs) w
    ∙ carving.append f.to_string (merged_parts (merge true par [] cs)) (put_on buf w)
    ∙ merge_direct par [] cs v ∙ ap (carve (direct par cs)) (put_on_nil v) ∙ sym (carving.append f.to_string (direct par cs) (put_on buf w))
merge_direct par buf (spread m ∷ cs) w = merge_direct par buf cs w

pub to_string_direct : (par : Bool) (cs : List Child) (w : Carved) → carve (children_to_string par cs) w ≡ carve (direct par cs) w
unfolding children_to_string
to_string_direct par cs w = merge_direct par [] cs w ∙ ap (carve (direct par cs)) (put_on_nil w)

-- ---- two merges

-- what the second merge makes of the children that the first has left
unfoldable pub again : List Child → Carved → Carved
again cs w = flagged (long_due (long_run cs)) (carve (direct false (short_runs cs)) w)

-- the children that are left to the first, with the run so far
abbrev pub twice : Bytes → List Child → Carved → Carved
twice buf cs w = again (merge false false buf cs) w

pub twice_is : (cs : List Child) (w : Carved) →
    flagged (long_due (long_run (merge false false [] cs))) (carve (children_to_string false (short_runs (merge false false [] cs))) w) ≡ twice [] cs w
unfolding again
twice_is cs w = ap (flagged (long_due (long_run (merge false false [] cs)))) (to_string_direct false (short_runs (merge false false [] cs)) w)

-- a run of the first merge ends
abbrev pub run : Bytes → Carved → Carved
run buf w = put_again (length buf) buf w

run_none : (w : Carved) → run [] w ≡ w
unfolding put_again jsx_text_to_str joined kept trimmed_lines lines escape_if escape_html
run_none w = put_on_nil w

flush_by : (t : Bytes) (cs : List Child) (w : Carved) (l : Bool) →
    flagged (long_due (l || long_run cs)) (carve (direct false (pick l (short_runs cs) (text t ∷ short_runs cs))) w)
    ≡ again cs (pick l (flagged (long_due true) w) (put_on (jsx_text_to_str t true false) w))
unfolding again carve direct child_direct
flush_by t cs w true =
    let v = carve (direct false (short_runs cs)) w in
    let l = long_due (long_run cs) in
    sym (ap (flagged l) (carve_flagged (long_due true) (direct false (short_runs cs)) w) ∙ flagged_twice (long_due true) l v ∙ ap (λ (d : Due). flagged d v) (sym (due_or Long true (long_run cs))))
flush_by t cs w false = refl

again_flush : (buf : Bytes) (cs : List Child) (w : Carved) → again (flush buf cs) w ≡ again cs (run buf w)
unfolding flush again put_again short_runs long_run
again_flush [] cs w = ap (again cs) (sym (run_none w))
again_flush (b ∷ buf) cs w = flush_by (b ∷ buf) cs w (ltb 65535 (length (b ∷ buf)))

-- ---- a child, with the run so far

pub twice_none : (buf : Bytes) (w : Carved) → twice buf [] w ≡ run buf w
unfolding merge again short_runs long_run direct carve
twice_none buf w = again_flush buf [] w ∙ flagged_none (run buf w)

again_container : (s : Shape) (m : Mid) (cs : List Child) (w : Carved) → joined_text s ≡ none → again (container s m ∷ cs) w ≡ again cs (close w)
unfolding again short_runs long_run direct child_direct child_parts carve
again_container s m cs w e =
    ap (λ (j : Option Bytes). flagged (long_due (long_run cs)) (carve ((elim j [ some b ↦ chars b ∷ [] | none ↦ gap (pure (maybe_wrap s m)) ∷ [] ]) ++ direct false (short_runs cs)) w)) e

module _ (buf : Bytes) (cs : List Child) (w : Carved) where
  pub twice_text : (t : Bytes) → twice buf (text t ∷ cs) w ≡ twice (buf ++ jsx_text_to_str t false false) cs w
  unfolding merge
  twice_text t = refl

  pub twice_empty : twice buf (empty ∷ cs) w ≡ twice buf cs w
  unfolding merge
  twice_empty = refl

  pub twice_spread : (m : Mid) → twice buf (spread m ∷ cs) w ≡ twice buf cs w
  unfolding merge
  twice_spread m = refl

  pub twice_joined : (s : Shape) (m : Mid) {b : Bytes} → joined_text s ≡ some b → twice buf (container s m ∷ cs) w ≡ twice (buf ++ b) cs w
  unfolding merge
  twice_joined s m {b} e = ap (λ (j : Option Bytes). again (elim j [ some b ↦ merge false false (buf ++ b) cs | none ↦ flush buf (container s m ∷ merge false false [] cs) ]) w) e

  pub twice_container : (s : Shape) (m : Mid) → joined_text s ≡ none → twice buf (container s m ∷ cs) w ≡ twice [] cs (close (run buf w))
  unfolding merge
  twice_container s m e =
      ap (λ (j : Option Bytes). again (elim j [ some b ↦ merge false false (buf ++ b) cs | none ↦ flush buf (container s m ∷ merge false false [] cs) ]) w) e
      ∙ again_flush buf (container s m ∷ merge false false [] cs) w ∙ again_container s m (merge false false [] cs) (run buf w) e

  pub twice_element : (e : Element) → twice buf (element e ∷ cs) w ≡ twice [] cs (carve e.to_string_vec (run buf w))
  unfolding merge again short_runs long_run direct child_direct
  twice_element e =
      again_flush buf (element e ∷ merge false false [] cs) w
      ∙ ap (flagged (long_due (long_run (merge false false [] cs)))) (carving.append e.to_string_vec (direct false (short_runs (merge false false [] cs))) (run buf w))

  pub twice_fragment : (f : Fragment) → twice buf (fragment f ∷ cs) w ≡ twice [] cs (carve f.to_string (run buf w))
  unfolding merge again short_runs long_run direct child_direct
  twice_fragment f =
      again_flush buf (fragment f ∷ merge false false [] cs) w
      ∙ ap (flagged (long_due (long_run (merge false false [] cs)))) (carving.append f.to_string (direct false (short_runs (merge false false [] cs))) (run buf w))

-- room now, where there is room in the end
pub twice_low : (buf : Bytes) (cs : List Child) (w : Carved) → Low (twice buf cs w) → Low w
unfolding again
twice_low buf cs w l = lows.back (direct false (short_runs (merge false false buf cs))) w l
