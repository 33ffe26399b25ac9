-- The later pages, lowered where they stand. Main statements: `fine_first`, `fine_second`, `page_lowered`; `lowering`, `lowers_one`, `all_lowered`.
-- Assumes nothing.
use Prim.Native.Nat.{ℕ, ◌+◌, ◌-◌, ◌%◌, ◌≤◌, ◌<◌}
use mathlib.Core.Path.{◌≡◌, refl, sym, ap, ap₂, ◌∙◌, subst}
use mathlib.Core.Bool.{true, false}
use mathlib.Core.List.{List, [], ◌∷◌, ◌++◌, append_assoc, append-nil}
use native.Mathlib.Omega.{arith}
use lib.ListN.{length, take, drop, replicate, length-append, length-drop, drop_of_length-le}
use lib.Seq.{take_at, drop_at, length-take-le}
use borrow.Rule.Slice.PartMut.{put_mid}
use Rattle.std.proofs.lemmas.List.{take_rest}
use Rattle.field.specs.Bytes.{Bytes}
use Rattle.field.specs.Number.{big_endian}
use Rattle.field.specs.Row.{bytes, read}
use Rattle.refusal.specs.Refusal.{Fine}
use Rattle.outs.specs.Held.{read_out}
use Rattle.outs.specs.PageOut.{check_page_out}
use Rattle.outs.specs.Templates.{check_templates}
use Rattle.outs.specs.declared.Kind.TheVariants.{New}
use Rattle.catalogue.specs.Page.{Body, Page}
use Rattle.catalogue.specs.Catalogue.{row, size}
use Rattle.catalogue.specs.Words.{lowered}
use Rattle.catalogue.specs.Numbers.{changed, raised, opposite, up, down}
use Rattle.catalogue.specs.Judged.{project}
use Rattle.catalogue.proofs.Rows.{up_templates, up_page_out}
use Rattle.catalogue_calls.specs.Standing.{housed, framed, IsPage}
use Rattle.catalogue_calls.specs.Arrives.{head_of}
use Rattle.catalogue_calls.specs.Leaves.{Rowed, Later, Lowers, lowered_page, FrontLowered}
use Rattle.catalogue_calls.proofs.FlatLaws.{raised_down}
use Rattle.catalogue_calls.proofs.PartLaws.{part_is, part_put, second_is, second_put}
use Rattle.catalogue_calls.proofs.RowedLaws.{length_head, page_parts, size_is, Front, front, first_of, none_of, raised_templates, raised_page_out}

-- ---- parts that are raised

-- as the writers of numbers leave them
abbrev pub records_raised : ℕ → Bytes → Bytes
records_raised n t = bytes (changed (raised 0x84 n) (read t))

abbrev pub calls_raised : ℕ → Bytes → Bytes
calls_raised n q = bytes (changed (raised 0x90 n) (read_out 4 q))

pub records_long : (n : ℕ) (t : Bytes) → length (records_raised n t) ≡ length t
unfolding up
records_long n t = up_templates n (record { templates = t; page_out = [] })

pub calls_long : (n : ℕ) (q : Bytes) → length (calls_raised n q) ≡ length q
unfolding up
calls_long n q = up_page_out n (record { templates = []; page_out = q })

-- a page that is lowered is its head, as it was, and its parts
lowered_parts : (f n : ℕ) (p : Page) (r : Bytes)
    → lowered_page f n p r ≡ head_of p.name p.house (length (up n p.body).templates) (length (up n p.body).page_out) ++ (records_raised (opposite f) (up n p.body).templates ++ (calls_raised (opposite f) (up n p.body).page_out ++ r))
unfolding project big_endian down up
lowered_parts f n p r =
    ap₂ (λ (i j : ℕ). head_of p.name p.house i j ++ (records_raised (opposite f) (up n p.body).templates ++ (calls_raised (opposite f) (up n p.body).page_out ++ r)))
    (records_long (opposite f) (up n p.body).templates) (calls_long (opposite f) (up n p.body).page_out)

pub lowered_front : (f n : ℕ) (p : Page) (r : Bytes) → lowered_page f n p r ≡ lowered_page f n p [] ++ r
lowered_front f n p r = simp append_assoc

pub lowered_long : (f n : ℕ) (p : Page) → length (lowered_page f n p []) ≡ size housed p
lowered_long f n p =
    let h = head_of p.name p.house (length (up n p.body).templates) (length (up n p.body).page_out) in
    let v = records_raised (opposite f) (up n p.body).templates in
    let u = calls_raised (opposite f) (up n p.body).page_out in
    ap length (lowered_parts f n p []) ∙
    omega (arith, length-append h (v ++ (u ++ [])), length-append v (u ++ []), length-append u [], length_head p.name p.house (length (up n p.body).templates) (length (up n p.body).page_out), records_long (opposite f) (up n p.body).templates, calls_long (opposite f) (up n p.body).page_out, up_templates n p.body, up_page_out n p.body, size_is p)

-- ---- the page in front

module _ {s : Bytes} {name house : ℕ} {t q r : Bytes} (g : IsPage s name house t q r) where
  module _ {n z : ℕ} {p : Page} {ps : List Page} (w : Rowed s n (p ∷ ps) z) where
    f : Front s n p ps z
    f = front w

    t_is : t ≡ (up n p.body).templates
    unfolding project
    t_is = g.templates_is ∙ ap (λ (x : Body). x.templates) f.body_is

    q_is : q ≡ (up n p.body).page_out
    unfolding project
    q_is = g.page_out_is ∙ ap (λ (x : Body). x.page_out) f.body_is

    h : Bytes
    h = head_of p.name p.house (length t) (length q)

    h_long : length h ≡ 14
    unfolding h
    h_long = length_head p.name p.house (length t) (length q)

    abbrev rest : Bytes
    rest = row housed (n + housed.forms p.body) ps (replicate z 0)

    s_is : s ≡ h ++ (t ++ (q ++ rest))
    unfolding h
    s_is =
        f.page_is ∙ page_parts n p rest
        ∙ ap₂ (λ (x y : Bytes). head_of p.name p.house (length x) (length y) ++ (x ++ (y ++ rest))) (sym t_is) (sym q_is)

    pub size_of : 14 + length t + length q ≡ size housed p
    size_of = omega (arith, ap length t_is, ap length q_is, up_templates n p.body, up_page_out n p.body, size_is p)

    t_fine : check_templates New t ≡ Fine
    unfolding project
    t_fine = ap (check_templates New) t_is ∙ raised_templates n p.body f.is_sound.of_bytes f.is_sound.judged

    q_fine : check_page_out 4 q ≡ Fine
    unfolding project
    q_fine = ap (check_page_out 4) q_is ∙ raised_page_out n p.body f.is_sound.of_bytes f.is_sound.judged

    module _ (k₁ k₂ : ℕ) (e₁ : k₁ ≡ length t) (e₂ : k₂ ≡ length q) where
      first_part : take k₁ (drop 14 s) ≡ t
      first_part = ap (λ (b : Bytes). take k₁ (drop 14 b)) s_is ∙ part_is h t (q ++ rest) 14 k₁ h_long e₁

      pub fine_first : check_templates New (take k₁ (drop 14 s)) ≡ Fine
      fine_first = ap (check_templates New) first_part ∙ t_fine

      module _ (by : ℕ) {v : Bytes} (v_is : v ≡ records_raised by (take k₁ (drop 14 s))) where
        v_there : v ≡ records_raised by t
        v_there = v_is ∙ ap (records_raised by) first_part

        v_long : 14 + length t ≡ 14 + length v
        v_long = omega (arith, ap length v_there, records_long by t)

        first_put : put_mid 14 k₁ s v ≡ h ++ (v ++ (q ++ rest))
        first_put = ap (λ (b : Bytes). put_mid 14 k₁ b v) s_is ∙ part_put h t (q ++ rest) 14 k₁ h_long e₁ v

        second_part : take k₂ (drop (14 + length t) (put_mid 14 k₁ s v)) ≡ q
        second_part = ap (λ (b : Bytes). take k₂ (drop (14 + length t) b)) first_put ∙ second_is h v q rest 14 (14 + length t) k₂ h_long v_long e₂

        pub fine_second : check_page_out 4 (take k₂ (drop (14 + length t) (put_mid 14 k₁ s v))) ≡ Fine
        fine_second = ap (check_page_out 4) second_part ∙ q_fine

        module _ {u : Bytes} (u_is : u ≡ calls_raised by (take k₂ (drop (14 + length t) (put_mid 14 k₁ s v)))) where
          u_there : u ≡ calls_raised by q
          u_there = u_is ∙ ap (calls_raised by) second_part

          both_put : put_mid (14 + length t) k₂ (put_mid 14 k₁ s v) u ≡ h ++ (v ++ (u ++ rest))
          both_put = ap (λ (b : Bytes). put_mid (14 + length t) k₂ b u) first_put ∙ second_put h v q rest 14 (14 + length t) k₂ h_long v_long e₂ u

          pub page_lowered : (forms : ℕ) → forms < 4294967296 → by ≡ (4294967296 - forms) % 4294967296 → put_mid (14 + length t) k₂ (put_mid 14 k₁ s v) u ≡ lowered_page forms n p rest
          unfolding h
          page_lowered forms l e =
              let e₃ : v ≡ records_raised (opposite forms) (up n p.body).templates =
              v_there ∙ ap (records_raised by) t_is ∙ ap bytes (raised_down 0x84 forms (read (up n p.body).templates) l e) in
              let e₄ : u ≡ calls_raised (opposite forms) (up n p.body).page_out =
              u_there ∙ ap (calls_raised by) q_is ∙ ap bytes (raised_down 0x90 forms (read_out 4 (up n p.body).page_out) l e) in
              both_put
              ∙ ap₂ (λ (x y : Bytes). h ++ (x ++ (y ++ rest))) e₃ e₄
              ∙ ap₂ (λ (x y : Bytes). head_of p.name p.house (length x) (length y) ++ (records_raised (opposite forms) (up n p.body).templates ++ (calls_raised (opposite forms) (up n p.body).page_out ++ rest))) t_is q_is
              ∙ sym (lowered_parts forms n p rest)

-- ---- page by page

-- what is left to lower, and what will stand there
pub record Doing (f : ℕ) (s : Bytes) (at : ℕ) (z : ℕ) (b : Bytes) : Type 0 where
  pub before : ℕ
  pub left : List Page
  pub rowed : Rowed (drop at s) before left z
  pub within : at ≤ length s
  pub becomes : b ≡ take at s ++ lowered housed f before left (replicate z 0)

abbrev pub Lowering : (b : Bytes) (f : ℕ) (s : Bytes) (at : ℕ) → Type 0
Lowering b f s at = (n : ℕ) (ps : List Page) (z : ℕ) → Rowed b n ps z → Doing f s at z (lowered housed f n ps (replicate z 0))

module _ {b s : Bytes} {f at : ℕ} (k : Lowering b f s at) where
  abbrev part : Bytes
  part = take (length s - at) (drop at s)

  part_all : part ≡ drop at s
  part_all = take_rest s at

  pub later : Later b → Later part
  later l =
      let d = k l.before l.pages l.zeros l.rowed in
      record { before = d.before; pages = d.left; zeros = l.zeros; rowed = subst (λ (x : Bytes). Rowed x d.before d.left l.zeros) (sym part_all) d.rowed }

  -- the first of those that are left
  record Next (n : ℕ) (ps : List Page) (z : ℕ) : Type 0 where
    before : ℕ
    page : Page
    behind : List Page
    row_there : Rowed part before (page ∷ behind) z
    within : at ≤ length s
    becomes : lowered housed f n ps (replicate z 0) ≡ take at s ++ lowered_page f before page (lowered housed f (before + housed.forms page.body) behind (replicate z 0))

  next : framed part ≡ true → (n : ℕ) (ps : List Page) (z : ℕ) → Rowed b n ps z → Next n ps z
  unfolding lowered project
  next e n ps z w =
      let d = k n ps z w in
      let r : Rowed part d.before d.left z = subst (λ (x : Bytes). Rowed x d.before d.left z) (sym part_all) d.rowed in
      let o = first_of d.left r e in
      record {
        before = d.before;
        page = o.page;
        behind = o.later;
        row_there = subst (λ (l : List Page). Rowed part d.before l z) o.all_is r;
        within = d.within;
        becomes = d.becomes ∙ ap (λ (l : List Page). take at s ++ lowered housed f d.before l (replicate z 0)) o.all_is;
      }

  module _ {last : ℕ} {v : Bytes} (g : FrontLowered part f last v) where
    pub moves_on : Later b → (14 ≤ last) × (at + last ≤ length s)
    moves_on l =
        let d = next g.is_page l.before l.pages l.zeros l.rowed in
        let e = (g.lowered_is d.before d.page d.behind l.zeros d.row_there).0 in
        let i = (front d.row_there).long in
        (omega (arith, e, size_is d.page), omega (arith, e, i, ap length part_all, length-drop at s, d.within))

    pub lowers_one : Lowering b f (put_mid at (length s - at) s v) (at + last)
    lowers_one n ps z w =
        let d = next g.is_page n ps z w in
        let e = g.lowered_is d.before d.page d.behind z d.row_there in
        let r : Bytes = row housed (d.before + housed.forms d.page.body) d.behind (replicate z 0) in
        let x : Bytes = lowered_page f d.before d.page [] in
        let y : Bytes = lowered housed f (d.before + housed.forms d.page.body) d.behind (replicate z 0) in
        let fr = front d.row_there in
        let nothing : drop (length s - at) (drop at s) ≡ [] = drop_of_length-le (drop at s) {i = length s - at} (omega (arith, length-drop at s)) in
        let is : put_mid at (length s - at) s v ≡ (take at s ++ x) ++ r =
        ap₂ (λ (i j : Bytes). take at s ++ (i ++ j)) (e.1 ∙ lowered_front f d.before d.page r) nothing ∙ ap (λ (i : Bytes). take at s ++ i) (append-nil (x ++ r)) ∙ sym (append_assoc (take at s) x r) in
        let l : length (take at s ++ x) ≡ at + last = omega (arith, length-append (take at s) x, length-take-le at s d.within, lowered_long f d.before d.page, e.0) in
        let behind_is : drop (at + last) (put_mid at (length s - at) s v) ≡ r = ap (drop (at + last)) is ∙ drop_at (take at s ++ x) r (at + last) l in
        record {
          before = d.before + housed.forms d.page.body;
          left = d.behind;
          rowed = record { short = omega (arith, fr.left.short, ap length behind_is, ap length fr.left.row_is); all_sound = fr.left.all_sound; row_is = behind_is };
          within = omega (arith, ap length is, length-append (take at s ++ x) r, l);
          becomes =
              d.becomes ∙ ap (λ (i : Bytes). take at s ++ i) (lowered_front f d.before d.page y) ∙ sym (append_assoc (take at s) x y)
              ∙ ap (λ (i : Bytes). i ++ y) (sym (ap (take (at + last)) is ∙ take_at (take at s ++ x) r (at + last) l));
        }

  pub all_lowered : framed part ≡ false → {v : Bytes} → v ≡ part → Lowers b f (put_mid at (length s - at) s v)
  unfolding lowered row
  all_lowered e {v} i n ps z w =
      let d = k n ps z w in
      let o = none_of d.left (subst (λ (x : Bytes). Rowed x d.before d.left z) (sym part_all) d.rowed) e in
      let nothing : drop (length s - at) (drop at s) ≡ [] = drop_of_length-le (drop at s) {i = length s - at} (omega (arith, length-drop at s)) in
      let zs : drop at s ≡ replicate z 0 = d.rowed.row_is ∙ ap (λ (l : List Page). row housed d.before l (replicate z 0)) o in
      ap₂ (λ (x y : Bytes). take at s ++ (x ++ y)) (i ∙ part_all ∙ zs) nothing ∙ ap (λ (x : Bytes). take at s ++ x) (append-nil (replicate z 0))
      ∙ ap (λ (l : List Page). take at s ++ lowered housed f d.before l (replicate z 0)) (sym o) ∙ sym d.becomes
