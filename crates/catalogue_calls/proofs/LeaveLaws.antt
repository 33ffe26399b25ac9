-- A leaving, whole: what the page's place and the later pages are in bytes, and that the code's moves give what `leaving_in_place` says. Main
-- statements: `refused_absent`, `is_there`, `in_order`, `tail_later`, `few`, `closes`, `remains`. Assumes nothing.
use Prim.Native.Nat.{ℕ, ◌+◌, ◌-◌, ◌^◌, ◌≤◌, ◌<◌}
use mathlib.Core.Path.{◌≡◌, sym, ap, ap₂, ◌∙◌, subst}
use mathlib.Core.List.{List, [], ◌∷◌, ◌++◌, append_assoc}
use native.Mathlib.Omega.{arith}
use lib.ListN.{length, take, drop, replicate, length-append}
use lib.Seq.{take_at, drop_at}
use borrow.Rule.Slice.PartMut.{put_mid}
use Rattle.std.specs.List.{copy_within}
use Rattle.std.specs.Prelude.{Option, Some, None}
use Rattle.std.proofs.lemmas.List.{take_rest}
use Rattle.field.specs.Bytes.{Bytes, AllBytes}
use Rattle.field.specs.Put.{put}
use Rattle.catalogue.specs.Page.{Page, A14}
use Rattle.catalogue.specs.Catalogue.{page_then, row, row_size, size, forms_of, AllSound, one_sound, Holds}
use Rattle.catalogue.specs.Calls.{refused, remain, before, without, number, used_after, pages_after, left_by}
use Rattle.catalogue.specs.Words.{lowered}
use Rattle.catalogue.specs.Judged.{project}
use Rattle.catalogue.proofs.Exact.{length_row}
use Rattle.catalogue.proofs.Lists.{row_append, page_front, row_front, Split, split_at_name}
use Rattle.catalogue.proofs.Project as P
use Rattle.catalogue.proofs.Project.{given}
use Rattle.catalogue_calls.specs.Answer.{leaving, Catalogues}
use Rattle.catalogue_calls.specs.Standing.{housed}
use Rattle.catalogue_calls.specs.Reads.{Holding}
use Rattle.catalogue_calls.specs.Looks.{FindsIn, LooksUp}
use Rattle.catalogue_calls.specs.Leaves.{Rowed, Later, Lowers, Leaver}
use Rattle.catalogue_calls.specs.declared.lookup.Found.{Found}
use Rattle.catalogue_calls.proofs.OutcomeLaws.{holds_of, name_absent, goes}
use Rattle.catalogue_calls.proofs.RowedLaws.{holds_row, page_long, size_is}
use Rattle.catalogue_calls.proofs.LookLaws.{size_joined, size_more, forms_joined, forms_more}
use Rattle.catalogue_calls.proofs.CloseLaws.{tail_put, moved, cleared_long, closed, put_there}

-- ---- the tests

module _ {b : Bytes} {used count forms : ℕ} (a : AllBytes b) (h : Holding b used count forms) where
  pub refused_absent : (x : ℕ) (r : Option Found) → LooksUp b x r → r ≡ None → leaving b x ≡ refused 22
  refused_absent x r k e = name_absent b x h.pages h.reads (subst (FindsIn x h.pages) e (k h.pages (holds_of a h)))

  pub is_there : (x : ℕ) (r : Option Found) (p : Found) → LooksUp b x r → r ≡ Some p → Leaver b x used count forms p.at p.end p.forms
  is_there x r p k e = record { of_bytes = a; holding = h; found = subst (FindsIn x h.pages) e (k h.pages (holds_of a h)) }

-- ---- the pages

sound_behind : (ps : List Page) (p : Page) (qs : List Page) → AllSound housed (ps ++ (p ∷ qs)) → AllSound housed qs
sound_behind [] p qs (one_sound s a) = a
sound_behind (q ∷ ps) p qs (one_sound s a) = sound_behind ps p qs a

row_long : (n : ℕ) (ps : List Page) → length (row housed n ps []) ≡ row_size housed ps
unfolding project
row_long n ps = length_row (given A14) n ps [] ∙ omega arith

module _ {b : Bytes} {x used count forms at last its : ℕ} (w : Leaver b x used count forms at last its) where
  abbrev ps : List Page
  ps = w.holding.pages

  h : Holds housed b ps
  h = holds_of w.of_bytes w.holding

  abbrev d : Split x ps
  d = split_at_name x ps w.found.is_present

  abbrev fs : List Page
  fs = before x ps

  abbrev m : ℕ
  m = forms_of housed fs

  abbrev k : ℕ
  k = housed.forms d.gone.body

  abbrev front : Bytes
  front = row housed 0 fs []

  abbrev page : Bytes
  page = page_then housed m d.gone []

  abbrev behind : Bytes
  behind = row housed (m + k) d.later []

  abbrev closed_up : Bytes
  closed_up = row housed m d.later []

  abbrev zs : ℕ
  zs = length b - row_size housed ps

  abbrev zeros : Bytes
  zeros = replicate zs 0

  all_size : row_size housed ps ≡ row_size housed fs + (size housed d.gone + row_size housed d.later)
  all_size = ap (row_size housed) d.all_is ∙ size_joined fs (d.gone ∷ d.later) ∙ ap (λ (n : ℕ). row_size housed fs + n) (size_more d.gone d.later)

  rest_size : row_size housed (without x ps) ≡ row_size housed fs + row_size housed d.later
  rest_size = ap (row_size housed) d.rest_is ∙ size_joined fs d.later

  its_forms : its ≡ k
  its_forms =
      let i = ap (forms_of housed) d.all_is ∙ forms_joined fs (d.gone ∷ d.later) in
      let j = ap (forms_of housed) d.rest_is ∙ forms_joined fs d.later in
      omega (arith, w.found.forms_is, i, j, forms_more d.gone d.later)

  page_size : length page ≡ size housed d.gone
  page_size = page_long m d.gone [] ∙ omega arith

  at_is : at ≡ length front
  at_is = w.found.at_is ∙ sym (row_long 0 fs)

  last_is : last ≡ length front + length page
  last_is = omega (arith, w.found.last_is, w.found.at_is, all_size, rest_size, row_long 0 fs, page_size)

  used_is : used ≡ last + length behind
  used_is = omega (arith, w.holding.used_is, all_size, last_is, row_long 0 fs, page_size, row_long (m + k) d.later)

  pub in_order : (at < last) × (last ≤ used) × (used ≤ length b)
  in_order = (omega (arith, at_is, last_is, page_size, size_is d.gone), omega (arith, used_is), omega (arith, w.holding.used_is, h.fits))

  pub few : its < 2 ^ 32
  few =
      let i = ap (forms_of housed) d.all_is ∙ forms_joined fs (d.gone ∷ d.later) in
      omega (arith, P.numbers_short A14 b ps h, its_forms, i, forms_more d.gone d.later)

  b_is : b ≡ front ++ (page ++ (behind ++ zeros))
  unfolding row project
  b_is =
      let o : 0 + forms_of housed fs ≡ m = omega arith in
      (holds_row b ps h).row_is ∙ ap (λ (q : List Page). row housed 0 q zeros) d.all_is ∙ row_append (given A14) 0 fs (d.gone ∷ d.later) zeros
      ∙ ap (λ (j : ℕ). row housed 0 fs (row housed j (d.gone ∷ d.later) zeros)) o
      ∙ row_front (given A14) 0 fs (row housed m (d.gone ∷ d.later) zeros)
      ∙ ap (λ (c : Bytes). front ++ page_then housed m d.gone c) (row_front (given A14) (m + k) d.later zeros)
      ∙ ap (λ (c : Bytes). front ++ c) (page_front (given A14) m d.gone [] (behind ++ zeros))

  split_there : b ≡ (front ++ page) ++ (behind ++ zeros)
  split_there = b_is ∙ sym (append_assoc front page (behind ++ zeros))

  to_page : length (front ++ page) ≡ last
  to_page = omega (arith, length-append front page, last_is)

  tail_row : Rowed (take (length b - last) (drop last b)) (m + k) d.later zs
  unfolding project
  tail_row =
      let e : take (length b - last) (drop last b) ≡ behind ++ zeros = take_rest b last ∙ ap (drop last) split_there ∙ drop_at (front ++ page) (behind ++ zeros) last to_page in
      record {
        short = omega (arith, ap length e, ap length b_is, length-append front (page ++ (behind ++ zeros)), length-append page (behind ++ zeros), h.short);
        all_sound = sound_behind fs d.gone d.later (subst (AllSound housed) d.all_is h.all_sound);
        row_is = e ∙ sym (row_front (given A14) (m + k) d.later zeros);
      }

  pub tail_later : Later (take (length b - last) (drop last b))
  tail_later = record { before = m + k; pages = d.later; zeros = zs; rowed = tail_row }

  -- ---- the bytes behind the leaving

  outcome_is : leaving b x ≡ remain (without x ps)
  outcome_is = goes b x ps w.holding.reads w.found.is_present

  left_is : left_by housed b (leaving b x) ≡ put b at (closed_up ++ replicate (length page) 0)
  unfolding number
  left_is =
      P.leaving_in_place A14 (record { guarantee = λ k. 0; most = λ k. 0 }) b ps h x (ap number outcome_is) d
      ∙ ap₂ (λ (i j : ℕ). put b i (closed_up ++ replicate j 0)) (sym w.found.at_is) (sym page_size)

  same_long : length closed_up ≡ length behind
  same_long = row_long m d.later ∙ sym (row_long (m + k) d.later)

  lowered_is : {v : Bytes} → Lowers (take (length b - last) (drop last b)) its v → v ≡ closed_up ++ zeros
  unfolding project
  lowered_is {v} l =
      l (m + k) d.later zs tail_row ∙ ap (λ (i : ℕ). lowered housed i (m + k) d.later zeros) its_forms
      ∙ P.later_lowered A14 m k d.later zeros tail_row.all_sound ∙ row_front (given A14) m d.later zeros

  pub closes : {v c z : Bytes} → Lowers (take (length b - last) (drop last b)) its v
      → c ≡ copy_within (put_mid last (length b - last) b v) last used at
      → z ≡ replicate (length (take (used - (used - (last - at))) (drop (used - (last - at)) c))) 0
      → put_mid (used - (last - at)) (used - (used - (last - at))) c z ≡ left_by housed b (leaving b x)
  closes {v} {c} {z} l e f =
      let t : put_mid last (length b - last) b v ≡ (front ++ page) ++ (closed_up ++ zeros) =
      tail_put b v last ∙ ap₂ (λ (i j : Bytes). i ++ j) (ap (take last) split_there ∙ take_at (front ++ page) (behind ++ zeros) last to_page) (lowered_is l) in
      let there : Bytes = (front ++ closed_up) ++ drop (at + length closed_up) ((front ++ page) ++ (closed_up ++ zeros)) in
      let c_is : c ≡ there = e ∙ ap (λ (i : Bytes). copy_within i last used at) t ∙ moved front page behind closed_up zeros at last used at_is last_is used_is same_long in
      let z_is : z ≡ replicate (length page) 0 =
      f ∙ ap (λ (i : Bytes). replicate (length (take (used - (used - (last - at))) (drop (used - (last - at)) i))) 0) c_is
      ∙ ap (λ (i : ℕ). replicate i 0) (cleared_long front page behind closed_up zeros at last used at_is last_is used_is same_long) in
      ap (λ (i : Bytes). put_mid (used - (last - at)) (used - (used - (last - at))) i z) c_is
      ∙ closed front page behind closed_up zeros at last used at_is last_is used_is same_long z z_is
      ∙ sym (put_there front page behind closed_up zeros at last used at_is last_is used_is same_long)
      ∙ ap (λ (i : Bytes). put i at (closed_up ++ replicate (length page) 0)) (sym b_is) ∙ sym left_is

  -- ---- what is answered

  one_less : length ps ≡ length (without x ps) + 1
  one_less =
      let i = ap length d.all_is ∙ length-append fs (d.gone ∷ d.later) in
      let j = ap length d.rest_is ∙ length-append fs d.later in
      omega arith

  pub some_page : 1 ≤ count
  some_page = omega (arith, w.holding.pages_is, one_less)

  pub remains : {b' : Bytes} → b' ≡ left_by housed b (leaving b x) → Catalogues (leaving b x) b 0 (used - (last - at)) (count - 1) b'
  unfolding number used_after pages_after
  remains {b'} e = record {
    number_is = sym (ap number outcome_is);
    used_is = omega (arith, w.holding.used_is, all_size, rest_size, last_is, at_is, page_size) ∙ sym (ap (used_after housed) outcome_is);
    pages_is = omega (arith, w.holding.pages_is, one_less) ∙ sym (ap pages_after outcome_is);
    bytes_are = e;
  }
