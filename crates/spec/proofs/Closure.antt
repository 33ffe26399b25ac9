-- The predicates of `Good` are closed under what passes are made of. Main statements: `good_template`, `good_visits`, `good_after`,
-- `good_after_any`; those of `Passes` are passed on.
-- Assumes nothing.
use Prim.Native.Nat.{ℕ, suc, ◌+◌, ◌≤◌}
use native.Mathlib.Omega.{arith}
use mathlib.Core.Path.{◌≡◌, refl, sym, ap, ap₂, ◌∙◌, subst₂}
use mathlib.Core.Bool.{Bool, true, false, not}
use mathlib.Core.List.{List, [], ◌∷◌, ◌++◌}
use lib.Dec.{T, eqb, eqb→eq}
use lib.ListN.{length}
use Rattle.std.proofs.Math.Facts.{or_no}
use Rattle.page.proofs.Booleans.{not_either}
use Rattle.field.specs.Bytes.{Bytes}
use Rattle.field.specs.Number.{big_endian}
use Rattle.field.specs.Row.{Row, end, field, Inside, only_bytes, fields_after, counted, counted_front, inside}
use Rattle.field.proofs.RowLaws.{Shaped, FrontFits, front_full, front_counted}
use Rattle.spec.specs.declared.Flags.{Flags}
use Rattle.spec.specs.Pass.{Template, Done, Pass, pure, both, bind, raise, Mid, none, node, raw, ◌⧺◌, Part, chars, gap, mark, marks, join}
use Rattle.spec.specs.Output.{gen_template, dynamic_exprs, strings_after, kinds_of}
use Rattle.spec.specs.Visit.{visit_exprs, visit_inside, visit_after, leave}
use Rattle.spec.specs.Transform.{stands}
use Rattle.spec.proofs.Good.{Sound, AllSound, Kept, GoodVisit, Clean, GoodDone, GoodPass, GoodGap, GoodParts, FormedBy, no_tag, OneNode, OneField, Piece, literal, hole, piece_strings, piece_kinds}
use Rattle.spec.proofs.Nested.{Neutral, sound_pieces}
use Rattle.spec.proofs.Ledger.{or_either, never, sound_append, kinds_append, stands_node, one_behind, then, kept_pure, kept_raised, kept_then}
pub use Rattle.spec.proofs.Passes.{clean_weaken, still_weaken, still_none, still_node, still_raw, still_append, good_weaken, good_pure, good_both, good_raise}

-- one expression: a field that is neither a jsxAttr call nor a choice, or a tag still to be visited
unfoldable pub OneExpr : Mid → Type 0
unfolding OneNode
OneExpr none = ⊥
OneExpr (node t f i r) = OneNode false (node t f i r)
OneExpr (raw q none) = Unit {0}
OneExpr (raw q (node t f i r)) = ⊥
OneExpr (raw q (raw s r)) = ⊥

-- the kinds of one expression, before and after its visit
one_kind : (k : Bool) (x : Mid) → OneNode k x → kinds_of x ≡ k ∷ []
unfolding OneNode kinds_of
one_kind k none o = absurd o
one_kind k (node t f i none) o = ap (λ (b : Bool). b ∷ []) o
one_kind k (node t f i (node u g j r)) o = absurd o
one_kind k (node t f i (raw q r)) o = absurd o
one_kind k (raw q r) o = absurd o

-- what is formed by its tag's rule is shaped by it once it is visited
formed_fits : (c : Inside) (f : Bytes) (i : Mid) (n : ℕ) → FormedBy c f i → FrontFits c f (visit_exprs i n).value
unfolding FormedBy FrontFits visit_exprs pure
formed_fits only_bytes f none n h = tt
formed_fits only_bytes f (node t g i r) n h = absurd h
formed_fits only_bytes f (raw q r) n h = absurd h
formed_fits (fields_after k) f i n h = front_full k f (visit_exprs i n).value (eqb→eq (length f) k h)
formed_fits (counted k) f i n h = front_counted k f (visit_exprs i n).value (eqb→eq (length f) (counted_front k f) h)

module _ (Fragments : Type 0) where
  -- ---- parts

  pub parts_weaken : (ps : List Part) (qs : List Piece) {v w : ℕ} → v ≤ w → GoodParts Fragments ps qs v → GoodParts Fragments ps qs w
  unfolding GoodParts
  parts_weaken [] [] h g = tt
  parts_weaken [] (q ∷ qs) h g = absurd g
  parts_weaken (chars b ∷ ps) [] h g = absurd g
  parts_weaken (chars b ∷ ps) (literal c ∷ qs) h g = (g.0, parts_weaken ps qs h g.1)
  parts_weaken (chars b ∷ ps) (hole k ∷ qs) h g = absurd g
  parts_weaken (gap p ∷ ps) [] h g = absurd g
  parts_weaken (gap p ∷ ps) (literal c ∷ qs) h g = absurd g
  parts_weaken (gap p ∷ ps) (hole k ∷ qs) h g = (g.0, g.1, omega arith, g.3, g.4)
  parts_weaken (mark f ∷ ps) qs h g = (g.0, parts_weaken ps qs h g.1)

  pub parts_append : (ps ps' : List Part) (qs qs' : List Piece) (a b : ℕ) → GoodParts Fragments ps qs a → GoodParts Fragments ps' qs' b → GoodParts Fragments (ps ++ ps') (qs ++ qs') (a + b)
  unfolding GoodParts
  parts_append [] ps' [] qs' a b g h = parts_weaken ps' qs' (omega arith) h
  parts_append [] ps' (q ∷ qs) qs' a b g h = absurd g
  parts_append (chars c ∷ ps) ps' [] qs' a b g h = absurd g
  parts_append (chars c ∷ ps) ps' (literal d ∷ qs) qs' a b g h = (g.0, parts_append ps ps' qs qs' a b g.1 h)
  parts_append (chars c ∷ ps) ps' (hole k ∷ qs) qs' a b g h = absurd g
  parts_append (gap p ∷ ps) ps' [] qs' a b g h = absurd g
  parts_append (gap p ∷ ps) ps' (literal d ∷ qs) qs' a b g h = absurd g
  parts_append (gap p ∷ ps) ps' (hole k ∷ qs) qs' a b g h = (g.0, g.1 + b, omega arith, g.3, parts_append ps ps' qs qs' g.1 b g.4 h)
  parts_append (mark f ∷ ps) ps' qs qs' a b g h = (g.0, parts_append ps ps' qs qs' a b g.1 h)

  -- ---- a template

  -- what its parts give: dynamic expressions, their kinds, and the strings between them
  record PartsGive (ps : List Part) (qs : List Piece) (w : ℕ) : Type 0 where
    good : GoodPass Fragments w (dynamic_exprs ps)
    kinds : (n : ℕ) → piece_kinds qs ≡ kinds_of (dynamic_exprs ps n).value
    strings : (last : Bytes) → piece_strings last qs ≡ strings_after last ps
    none_left : T (not (marks ps).left)

  parts_give : (ps : List Part) (qs : List Piece) (w : ℕ) → GoodParts Fragments ps qs w → PartsGive ps qs w
  unfolding GoodParts dynamic_exprs piece_kinds piece_strings strings_after kinds_of pure both marks
  parts_give [] [] w g = record { good = good_pure Fragments (still_none Fragments w); kinds = λ n. refl; strings = λ last. refl; none_left = tt }
  parts_give [] (q ∷ qs) w g = absurd g
  parts_give (chars b ∷ ps) [] w g = absurd g
  parts_give (chars b ∷ ps) (literal c ∷ qs) w g =
      let r = parts_give ps qs w g.1 in
      record { good = r.good; kinds = r.kinds; strings = λ last. ap (λ (x : Bytes). piece_strings (last ++ x) qs) (sym g.0) ∙ r.strings (last ++ b); none_left = r.none_left }
  parts_give (chars b ∷ ps) (hole k ∷ qs) w g = absurd g
  parts_give (gap p ∷ ps) [] w g = absurd g
  parts_give (gap p ∷ ps) (literal c ∷ qs) w g = absurd g
  parts_give (gap p ∷ ps) (hole k ∷ qs) w g =
      let r = parts_give ps qs g.1 g.4 in
      record {
        good = good_weaken Fragments g.2 (good_both Fragments g.3.good r.good);
        kinds =
            λ n.
            let m = n + (p n).taken in
            ap₂ (λ (x y : List Bool). x ++ y) (sym (one_kind k (p n).value (g.3.one n))) (r.kinds m) ∙ sym (kinds_append (p n).value (dynamic_exprs ps m).value);
        strings = λ last. ap (λ (x : List Bytes). last ∷ x) (r.strings []);
        none_left = r.none_left;
      }
  parts_give (mark f ∷ ps) qs w g =
      let r = parts_give ps qs w g.1 in
      record { good = r.good; kinds = r.kinds; strings = r.strings; none_left = not_either f.left (marks ps).left g.0 r.none_left }

  -- the pass of a template, by that of its dynamic expressions and by its marks
  template_kept : (d : Done Mid) (f : Flags) (t : Template) (v : Mid) → T (not f.left) → (T (not f.mixed) → Sound t) → Kept Fragments d → Kept Fragments (record { value = v; taken = 1 + d.taken; templates = d.templates ++ (t ∷ []); flags = join f d.flags })
  unfolding AllSound
  template_kept d f t v l s k =
      record {
        sound = λ m. let u = or_no f.mixed d.flags.mixed m in sound_append d.templates (t ∷ []) (k.sound u.1) (s u.0, tt);
        fragments = or_either f.left d.flags.left (λ x. absurd (never f.left l x)) k.fragments;
      }

  pub good_template : (ps : List Part) (qs : List Piece) (w : ℕ) → GoodParts Fragments ps qs w → (T (not (marks ps).mixed) → Neutral qs) → GoodGap Fragments (suc w) false (gen_template ps)
  unfolding gen_template OneNode Clean FormedBy inside big_endian
  good_template ps qs w g h =
      let all = parts_give ps qs w g in
      record {
        good =
            λ n.
            let r = dynamic_exprs ps (n + 1) in
            let d = all.good (n + 1) in
            let t : Template = record { number = n; strings = strings_after [] ps; kinds = kinds_of r.value } in
            let s : T (not (marks ps).mixed) → Sound t = λ m. subst₂ (λ (x : List Bytes) (y : List Bool). Sound (record { number = n; strings = x; kinds = y })) (all.strings []) (all.kinds (n + 1)) (sound_pieces n qs (h m)) in
            record {
              kept = template_kept r (marks ps) t (node 0x90 (big_endian 4 n []) r.value none) all.none_left s d.kept;
              left_over = d.left_over;
              bound = omega arith;
              clean = (tt, tt, (d.left_over, 0, omega arith, d.clean, tt));
            };
        one = λ n. refl;
      }

  -- ---- visits

  -- a row of expressions, visited
  pub record Visited (w : ℕ) (d : Done Row) : Type 0 where
    pub kept : Kept Fragments d
    pub bound : d.taken ≤ w
    pub shaped : Shaped d.value
    pub no_element : T (not d.flags.left) → stands 0x30 d.value ≡ false
    pub no_fragment : T (not d.flags.left) → stands 0x31 d.value ≡ false

  visited_none : (w n : ℕ) → Visited w (pure end n)
  unfolding pure Shaped stands
  visited_none w n =
      record { kept = kept_pure Fragments end n; bound = omega arith; shaped = tt; no_element = λ h. refl; no_fragment = λ h. refl }

  visited_node : (t : ℕ) (f : Bytes) (a b w : ℕ) (d e : Done Row) → T (no_tag t) → FrontFits (inside t) f d.value → a + b ≤ w → Visited a d → Visited b e → Visited w (then (field t f d.value e.value) d e)
  unfolding Shaped
  visited_node t f a b w d e k s h x y =
      let x' = d.value in
      let y' = e.value in
      let l = d.flags.left in
      let l' = e.flags.left in
      let tags = or_no (eqb t 0x30) (eqb t 0x31) k in
      record {
        kept = kept_then Fragments (field t f x' y') d e x.kept y.kept;
        bound = omega arith;
        shaped = (s, x.shaped, y.shaped);
        no_element = λ m. stands_node 0x30 t f x' y' tags.0 (x.no_element (or_no l l' m).0) (y.no_element (or_no l l' m).1);
        no_fragment = λ m. stands_node 0x31 t f x' y' tags.1 (x.no_fragment (or_no l l' m).0) (y.no_fragment (or_no l l' m).1);
      }

  visited_raw : (a b w : ℕ) (d e : Done Row) → a + b ≤ w → GoodVisit Fragments a d → Visited b e → Visited w (then (d.value ⧺ e.value) d e)
  visited_raw a b w d e h x y =
      let x' = d.value in
      let y' = e.value in
      let l = d.flags.left in
      let l' = e.flags.left in
      let o = one_behind x' y' x.one in
      record {
        kept = kept_then Fragments (x' ⧺ y') d e x.kept y.kept;
        bound = omega arith;
        shaped = o.shaped x.shaped y.shaped;
        no_element = λ m. o.stands_not 0x30 (x.no_element (or_no l l' m).0) (y.no_element (or_no l l' m).1);
        no_fragment = λ m. o.stands_not 0x31 (x.no_fragment (or_no l l' m).0) (y.no_fragment (or_no l l' m).1);
      }

  pub good_visits : (m : Mid) {w : ℕ} → Clean Fragments m w → (n : ℕ) → Visited w (visit_exprs m n)
  unfolding Clean visit_exprs both
  good_visits none {w} c n = visited_none w n
  good_visits (node t f i r) {w} c n =
      let d = visit_exprs i n in
      let e = visit_exprs r (n + d.taken) in
      visited_node t f c.2.0 c.2.1 w d e c.0 (formed_fits (inside t) f i n c.1) c.2.2 (good_visits i c.2.3 n) (good_visits r c.2.4 (n + d.taken))
  good_visits (raw q r) {w} c n =
      let d = q n in
      let e = visit_exprs r (n + d.taken) in
      visited_raw c.0 c.1 w d e c.2 (c.3.visits n) (good_visits r c.4 (n + d.taken))

  -- one field in the first pass, visited in the second
  good_then : (w : ℕ) (d : Done Mid) (e : Done Row) (g : GoodDone Fragments w d) → Visited g.left_over e → OneField e.value → GoodVisit Fragments w (then e.value d e)
  good_then w d e g v o =
      let l = d.flags.left in
      let l' = e.flags.left in
      record {
        kept = kept_then Fragments e.value d e g.kept v.kept;
        bound = omega arith;
        one = o;
        shaped = v.shaped;
        no_element = λ m. v.no_element (or_no l l' m).1;
        no_fragment = λ m. v.no_fragment (or_no l l' m).1;
      }

  inside_field : (m : Mid) {w : ℕ} → Clean Fragments m w → OneNode false m → (n : ℕ) → Visited w (visit_inside m n) × OneField (visit_inside m n).value
  unfolding OneNode OneField visit_inside visit_exprs both pure
  inside_field none c o n = absurd o
  inside_field (node t f i none) c o n = (good_visits (node t f i none) c n, o)
  inside_field (node t f i (node u g j r)) c o n = absurd o
  inside_field (node t f i (raw q r)) c o n = absurd o
  inside_field (raw q r) c o n = absurd o

  -- ---- tags that are left, and the second pass after the first

  pub good_leave : {w : ℕ} → Fragments → (n : ℕ) → GoodVisit Fragments w (leave n)
  unfolding leave raise pure OneField Shaped FrontFits inside stands
  good_leave f n =
      let none_taken = pure (field 0x30 [] end end) n in
      record {
        kept = kept_raised Fragments (record { left = true; long = false; repeated = false; mixed = false }) none_taken (λ t. f) (kept_pure Fragments (field 0x30 [] end end) n);
        bound = omega arith;
        one = refl;
        shaped = (tt, tt, tt);
        no_element = λ t. absurd t;
        no_fragment = λ t. absurd t;
      }

  pub good_null : {w : ℕ} (n : ℕ) → GoodVisit Fragments w (pure (field 0x73 [] end end) n)
  unfolding pure OneField Shaped FrontFits inside stands
  good_null n =
      record {
        kept = kept_pure Fragments (field 0x73 [] end end) n;
        bound = omega arith;
        one = refl;
        shaped = (tt, tt, tt);
        no_element = λ t. refl;
        no_fragment = λ t. refl;
      }

  -- the second pass after the first, where the first gives a field
  pub good_after : {p : Pass Mid} {w : ℕ} → GoodGap Fragments w false p → (n : ℕ) → GoodVisit Fragments w (visit_after p n)
  unfolding visit_after bind
  good_after {p} {w} g n =
      let d = p n in
      let x = g.good n in
      let v = inside_field d.value x.clean (g.one n) (n + d.taken) in
      good_then w d (visit_inside d.value (n + d.taken)) x v.0 v.1

  visited_alone : (w : ℕ) (d : Done Row) → GoodVisit Fragments w d → Visited w d
  visited_alone w d g =
      record {
        kept = g.kept;
        bound = g.bound;
        shaped = g.shaped;
        no_element = g.no_element;
        no_fragment = g.no_fragment;
      }

  inside_expr : Fragments → (m : Mid) {w : ℕ} → Clean Fragments m w → OneExpr m → (n : ℕ) → Visited w (visit_inside m n) × OneField (visit_inside m n).value
  unfolding OneExpr Clean visit_inside
  inside_expr f none c o n = absurd o
  inside_expr f (node t g i r) c o n = inside_field (node t g i r) c o n
  inside_expr f (raw q none) {w} c o n =
      let x : GoodVisit Fragments w (leave n) = good_leave f n in
      (visited_alone w (leave n) x, x.one)
  inside_expr f (raw q (node t g i r)) c o n = absurd o
  inside_expr f (raw q (raw s r)) c o n = absurd o

  -- and where it may give a tag, which is left
  pub good_after_any : {p : Pass Mid} {w : ℕ} → Fragments → GoodPass Fragments w p → ((n : ℕ) → OneExpr (p n).value) → (n : ℕ) → GoodVisit Fragments w (visit_after p n)
  unfolding visit_after bind
  good_after_any {p} {w} f g o n =
      let d = p n in
      let x = g n in
      let v = inside_expr f d.value x.clean (o n) (n + d.taken) in
      good_then w d (visit_inside d.value (n + d.taken)) x v.0 v.1
