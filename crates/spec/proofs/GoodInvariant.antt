-- What is good is kept by every pass: `Good` as an invariant, with a budget of one number for each tag. Main statement: `good_invariant`.
-- Assumes nothing.
use Prim.Native.Nat.{ℕ, ◌+◌, ◌-◌, ◌≤◌}
use native.Mathlib.Omega.{arith}
use mathlib.Core.Path.{◌≡◌, refl, ap}
use mathlib.Core.Bool.{true, false, ◌||◌, not}
use mathlib.Core.List.{List, [], ◌∷◌, ◌++◌}
use lib.Dec.{T, eqb}
use Rattle.std.proofs.Math.Facts.{or_no}
use Rattle.page.proofs.Booleans.{not_either, is_false}
use Rattle.field.specs.Bytes.{Bytes}
use Rattle.field.specs.Row.{Row, inside}
use Rattle.text.specs.Escape.{escape_html}
use Rattle.names.specs.Names.{is_void_element}
use Rattle.page.specs.Check.{is_name}
use Rattle.spec.specs.Pass.{Done, Pass, map, Raw, Mid, none, node, raw, Part, chars, gap, mark, marks, long_if}
use Rattle.spec.specs.Attributes.{Attribute, void_when_lowered, tag_flags}
use Rattle.spec.specs.Words.{free}
use Rattle.spec.proofs.Good.{GoodVisit, Clean, Still, GoodPass, GoodGap, GoodParts, FormedBy, OneNode, Piece, literal, hole}
use Rattle.spec.proofs.Ledger.{kept_valued}
use Rattle.spec.proofs.Nested.{Neutral, InTag, neutral_nil, neutral_append, neutral_text, neutral_hole, neutral_void, neutral_element, in_tag_nil, in_tag_append, in_tag_text, in_tag_hole, escape_name, void_compared, unmixed_compared}
use Rattle.spec.proofs.Closure.{OneExpr, still_weaken, still_none, still_node, still_raw, still_append, good_weaken, good_pure, good_both, good_raise, good_template, parts_weaken, parts_append, good_after, good_after_any, good_leave, good_null}
use Rattle.spec.proofs.Invariant.{Alone, AloneField, Invariant}

-- what stands alone is one expression
pub field_node : (m : Mid) → AloneField m → OneNode false m
unfolding AloneField OneNode
field_node none h = absurd h
field_node (node t f i none) h = is_false (eqb t 0x91 || eqb t 0x93) (or_no (eqb t 0x20) (eqb t 0x91 || eqb t 0x93) h).1
field_node (node t f i (node u g j r)) h = absurd h
field_node (node t f i (raw q r)) h = absurd h
field_node (raw q r) h = absurd h

pub alone_expr : (m : Mid) → Alone m → OneExpr m
unfolding Alone OneExpr OneNode
alone_expr none h = absurd h
alone_expr (node t f i none) h = is_false (eqb t 0x91 || eqb t 0x93) (or_no (eqb t 0x20) (eqb t 0x91 || eqb t 0x93) h).1
alone_expr (node t f i (node u g j r)) h = absurd h
alone_expr (node t f i (raw q r)) h = absurd h
alone_expr (raw q none) h = tt
alone_expr (raw q (node t f i r)) h = absurd h
alone_expr (raw q (raw s r)) h = absurd h

-- parts without a mixed mark, and both halves of them
abbrev pub Unmixed : List Part → Type 0
Unmixed ps = T (not (marks ps).mixed)

unmixed_append : (ps qs : List Part) → Unmixed (ps ++ qs) → Unmixed ps × Unmixed qs
unfolding marks
unmixed_append [] qs m = (tt, m)
unmixed_append (chars b ∷ ps) qs m = unmixed_append ps qs m
unmixed_append (gap p ∷ ps) qs m = unmixed_append ps qs m
unmixed_append (mark f ∷ ps) qs m =
    let u = or_no f.mixed (marks (ps ++ qs)).mixed m in
    let v = unmixed_append ps qs u.1 in
    (not_either f.mixed (marks ps).mixed u.0 v.0, v.1)

module _ (Fragments : Type 0) where
  -- ---- parts

  -- parts that are content, however they are filled, unless one of their names is void only in small letters
  pub record Content (ps : List Part) (w : ℕ) : Type 0 where
    pub pieces : List Piece
    pub good : GoodParts Fragments ps pieces w
    pub neutral : Unmixed ps → Neutral pieces

  -- parts that stand in an opening tag
  pub record Opening (ps : List Part) (w : ℕ) : Type 0 where
    pub pieces : List Piece
    pub good : GoodParts Fragments ps pieces w
    pub in_tag : InTag pieces

  pub content_weaken : {ps : List Part} {v w : ℕ} → v ≤ w → Content ps v → Content ps w
  content_weaken {ps} h c = record { pieces = c.pieces; good = parts_weaken Fragments ps c.pieces h c.good; neutral = c.neutral }

  pub content_nil : (w : ℕ) → Content [] w
  unfolding GoodParts
  content_nil w = record { pieces = []; good = tt; neutral = λ m. neutral_nil }

  pub content_append : {ps qs : List Part} {a b w : ℕ} → a + b ≤ w → Content ps a → Content qs b → Content (ps ++ qs) w
  content_append {ps} {qs} {a} {b} {w} h x y =
      record {
        pieces = x.pieces ++ y.pieces;
        good = parts_weaken Fragments (ps ++ qs) (x.pieces ++ y.pieces) h (parts_append Fragments ps qs x.pieces y.pieces a b x.good y.good);
        neutral = λ m. let u = unmixed_append ps qs m in neutral_append (x.neutral u.0) (y.neutral u.1);
      }

  pub content_text : (t : Bytes) {ps : List Part} {w : ℕ} → T (free t) → Content ps w → Content (chars t ∷ ps) w
  unfolding GoodParts marks
  content_text t {ps} {w} h x = record { pieces = literal t ∷ x.pieces; good = (refl, x.good); neutral = λ m. neutral_append (neutral_text t h) (x.neutral m) }

  pub content_gap : {p : Pass Mid} {ps : List Part} {a b w : ℕ} → a + b ≤ w → GoodGap Fragments a false p → Content ps b → Content (gap p ∷ ps) w
  unfolding GoodParts marks
  content_gap {p} {ps} {a} {b} {w} h g x = record { pieces = hole false ∷ x.pieces; good = (a, b, h, g, x.good); neutral = λ m. neutral_append neutral_hole (x.neutral m) }

  pub opening_nil : (w : ℕ) → Opening [] w
  unfolding GoodParts
  opening_nil w = record { pieces = []; good = tt; in_tag = in_tag_nil }

  pub opening_append : {ps qs : List Part} {a b w : ℕ} → a + b ≤ w → Opening ps a → Opening qs b → Opening (ps ++ qs) w
  opening_append {ps} {qs} {a} {b} {w} h x y =
      record {
        pieces = x.pieces ++ y.pieces;
        good = parts_weaken Fragments (ps ++ qs) (x.pieces ++ y.pieces) h (parts_append Fragments ps qs x.pieces y.pieces a b x.good y.good);
        in_tag = in_tag_append x.in_tag y.in_tag;
      }

  -- a text behind a space
  pub opening_text : (b : Bytes) (w : ℕ) → T (free b) → Opening (chars (32 ∷ b) ∷ []) w
  unfolding GoodParts
  opening_text b w h = record { pieces = literal (32 ∷ b) ∷ []; good = (refl, tt); in_tag = in_tag_text b h }

  -- a space and a gap
  pub opening_gap : {p : Pass Mid} {w : ℕ} → GoodGap Fragments w true p → Opening (chars (32 ∷ []) ∷ gap p ∷ []) w
  unfolding GoodParts
  opening_gap {p} {w} g = record { pieces = literal (32 ∷ []) ∷ hole true ∷ []; good = (refl, (w, 0, omega arith, g, tt)); in_tag = in_tag_hole }

  -- `<name`, the attributes, `>`
  pub void_content : {ps : List Part} (n : Bytes) (as' : List Attribute) → T (is_name n) → is_void_element n ≡ true → {a : ℕ} → Opening ps a → (c : ℕ) → Content (mark (tag_flags n as') ∷ chars (60 ∷ escape_html n) ∷ (ps ++ (chars (62 ∷ []) ∷ []))) (a + c)
  unfolding GoodParts tag_flags
  void_content {ps} n as' ok e {a} x c =
      record {
        pieces = literal (60 ∷ n) ∷ (x.pieces ++ (literal (62 ∷ []) ∷ []));
        good = (tt, (ap (λ (b : Bytes). 60 ∷ b) (escape_name n ok), parts_append Fragments ps (chars (62 ∷ []) ∷ []) x.pieces (literal (62 ∷ []) ∷ []) a c x.good (refl, tt)));
        neutral = λ m. neutral_void n ok (void_compared n e) x.in_tag;
      }

  -- and the children, and `</name>`
  pub element_content : {ps qs : List Part} (n : Bytes) (as' : List Attribute) → T (is_name n) → is_void_element n ≡ false → {a c : ℕ} → Opening ps a → Content qs c →
      Content (mark (tag_flags n as') ∷ chars (60 ∷ escape_html n) ∷ (ps ++ (chars (62 ∷ []) ∷ (qs ++ (chars (60 ∷ 47 ∷ (n ++ (62 ∷ []))) ∷ []))))) (a + c)
  unfolding GoodParts tag_flags marks
  element_content {ps} {qs} n as' ok e {a} {c} x y =
      let close : List Part = chars (60 ∷ 47 ∷ (n ++ (62 ∷ []))) ∷ [] in
      let closed : List Piece = literal (60 ∷ 47 ∷ (n ++ (62 ∷ []))) ∷ [] in
      let back = parts_weaken Fragments (qs ++ close) (y.pieces ++ closed) {v = c + 0} {w = c} (omega arith) (parts_append Fragments qs close y.pieces closed c 0 y.good (refl, tt)) in
      record {
        pieces = literal (60 ∷ n) ∷ (x.pieces ++ (literal (62 ∷ []) ∷ (y.pieces ++ closed)));
        good = (tt, (ap (λ (b : Bytes). 60 ∷ b) (escape_name n ok), parts_append Fragments ps (chars (62 ∷ []) ∷ (qs ++ close)) x.pieces (literal (62 ∷ []) ∷ (y.pieces ++ closed)) a c x.good (refl, back)));
        neutral =
            λ m.
            let u = or_no (void_when_lowered n) (marks (ps ++ (chars (62 ∷ []) ∷ (qs ++ close)))).mixed m in
            let v = unmixed_append qs close (unmixed_append ps (chars (62 ∷ []) ∷ (qs ++ close)) u.1).1 in
            neutral_element n ok (unmixed_compared n e u.0) x.in_tag (y.neutral v.0);
      }

  -- ---- expressions taken apart

  -- the first field of a row, what it holds, and the rest
  pub record Parted (t : ℕ) (f : Bytes) (i r : Mid) (w : ℕ) : Type 0 where
    pub first_weight : ℕ
    pub rest_weight : ℕ
    pub split_within : first_weight + rest_weight ≤ w
    pub first : Still Fragments first_weight (node t f i none)
    pub held : Still Fragments first_weight i
    pub rest : Still Fragments rest_weight r

  pub split : (t : ℕ) (f : Bytes) (i r : Mid) (w : ℕ) → Still Fragments w (node t f i r) → Parted t f i r w
  unfolding Clean
  split t f i r w x =
      let c = x.clean in
      record {
        first_weight = c.2.0;
        rest_weight = c.2.1;
        split_within = c.2.2;
        first = record { clean = (c.0, c.1, (c.2.0, 0, omega arith, c.2.3, tt)) };
        held = record { clean = c.2.3 };
        rest = record { clean = c.2.4 };
      }

  -- a tag in front of a row
  pub split_raw : (q : Raw) (r : Mid) (w : ℕ) → Still Fragments w (raw q r) → (a : ℕ) × (b : ℕ) × (a + b ≤ w) × Still Fragments a (raw q none) × Still Fragments b r
  unfolding Clean
  split_raw q r w x =
      let c = x.clean in
      (c.0, c.1, c.2, record { clean = (c.0, 0, omega arith, c.3, tt) }, record { clean = c.4 })

  -- ---- passes and visits

  pub good_map : {p : Pass Mid} {v w : ℕ} (f : Mid → Mid) (a : ℕ) → ((m : Mid) (k b c : ℕ) → a + b ≡ c → Still Fragments b m → Still Fragments c (f m)) → a + v ≡ w → GoodPass Fragments v p → GoodPass Fragments w (map f p)
  unfolding map
  good_map {p} f a k e g n =
      let d = g n in
      record {
        kept = kept_valued Fragments (f (p n).value) (p n) d.kept;
        left_over = a + d.left_over;
        bound = omega (arith, e, d.bound);
        clean = (k (p n).value 0 d.left_over (a + d.left_over) refl (record { clean = d.clean })).clean;
      }

  pub visit_weaken : {d : Done Row} {v w : ℕ} → v ≤ w → GoodVisit Fragments v d → GoodVisit Fragments w d
  visit_weaken h g = record { kept = g.kept; bound = omega (arith, g.bound); one = g.one; shaped = g.shaped; no_element = g.no_element; no_fragment = g.no_fragment }

  unfoldable pub good_invariant : Invariant
  unfolding FormedBy inside
  good_invariant =
      record {
        literal = λ b. 0;
        other = λ bs. 0;
        own = λ f. 0;
        tag = 1;
        Spare = λ w. Unit {0};
        Left = Fragments;
        NameOk = λ n. T (is_name n);
        MidOk = λ k m w. Still Fragments w m;
        PassOk = λ p w. GoodPass Fragments w p;
        Content = Content;
        Opening = Opening;
        VisitOk = λ p w. (n : ℕ) → GoodVisit Fragments w (p n);
        spare_sum = λ e x y. tt;
        spare_none = tt;
        spare_tag = tt;
        mid_spare = λ e s x. still_weaken Fragments (omega (arith, e)) x;
        pass_spare = λ e s x. good_weaken Fragments (omega (arith, e)) x;
        content_spare = λ e s x. content_weaken (omega (arith, e)) x;
        visit_spare = λ e s x n. visit_weaken (omega (arith, e)) (x n);
        mid_none = still_none Fragments 0;
        mid_node = λ t f h g d e x y. still_weaken Fragments (omega (arith, e)) (still_node Fragments t f (or_no (eqb t 0x30 || eqb t 0x31) (eqb t 0x90 || (eqb t 0x74 || eqb t 0x79)) h).0 g x y);
        mid_literal = λ b e x. still_weaken Fragments (omega (arith, e)) (still_node Fragments 0x74 b tt tt (still_none Fragments 0) x);
        mid_other = λ i e x y. still_weaken Fragments (omega (arith, e)) (still_node Fragments 0x79 [] tt tt x y);
        mid_raw = λ e x y. still_weaken Fragments (omega (arith, e)) (still_raw Fragments (record { visits = x }) y);
        mid_append = λ d e x y. still_weaken Fragments (omega (arith, e)) (still_append Fragments x y);
        mid_nothing = λ x. tt;
        mid_inner = λ {t} {f} {i} {w} h x. let k = split t f i none w x in still_weaken Fragments (omega (arith, k.split_within)) k.held;
        mid_field = λ {t} {f} {i} {r} {w} x. let k = split t f i r w x in record { first = k.first_weight; second = k.rest_weight; spared = w - (k.first_weight + k.rest_weight); sum = omega (arith, k.split_within); spare = tt; one = k.first; rest = k.rest };
        mid_tag = λ {q} {r} {w} x. let k = split_raw q r w x in record { first = k.0; second = k.1; spared = w - (k.0 + k.1); sum = omega (arith, k.2); spare = tt; one = k.3; rest = k.4 };
        pass_pure = good_pure Fragments;
        pass_both = λ e g h. good_weaken Fragments (omega (arith, e)) (good_both Fragments g h);
        pass_map = good_map;
        pass_raise = λ b g. good_raise Fragments (long_if b) (λ t. absurd t) g;
        pass_template = λ ps {v} {w} e c. good_weaken Fragments (omega (arith, e)) (good_template Fragments ps c.pieces v c.good c.neutral).good;
        content_none = content_nil 0;
        content_text = content_text;
        content_gap = λ {p} e g a x. content_gap (omega (arith, e)) (record { good = g; one = λ n. field_node (p n).value (a n) }) x;
        content_append = λ e x y. content_append (omega (arith, e)) x y;
        content_void = λ n as' ok e d x. content_weaken (omega (arith, d)) (void_content n as' ok e x 0);
        content_element = λ n as' ok e d x y. content_weaken (omega (arith, d)) (element_content n as' ok e x y);
        opening_none = λ {w} s. opening_nil w;
        opening_text = λ b {w} s h. opening_text b w h;
        opening_gap = λ g a. opening_gap (record { good = g; one = a });
        opening_append = λ e s x y. opening_append (omega (arith, e)) x y;
        visit_done = λ {p} g a. good_after Fragments (record { good = g; one = λ n. field_node (p n).value (a n) });
        visit_any = λ {p} z g a. good_after_any Fragments z g λ n. alone_expr (p n).value (a n);
        visit_left = good_leave Fragments;
        visit_null = good_null Fragments;
      }
