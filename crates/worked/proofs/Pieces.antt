-- Looking for the one source piece of a 79. Main statements: `passed_over`, `piece_in`, `no_79`, `no_piece`, `no_source`, `not_alone`, `alone`. Assumes nothing.
use Prim.Native.Nat.{ℕ, ◌≤◌}
use mathlib.Core.Path.{◌≡◌, refl, sym, ◌∙◌, ap, ap₂, subst}
use mathlib.Core.Bool.{Bool, true, false, ◌||◌}
use native.Mathlib.Omega.{arith}
use lib.Dec.{eqb}
use lib.ListN.{take, drop}
use borrow.Author.Tests.{eqb-true, eqb-false, eq-eqb, ne_eqb}
use Rattle.field.specs.Bytes.{Bytes}
use Rattle.field.specs.Row.{Row, end, loose, field, Inside, only_bytes, fields_after, counted, counted_front, inside, opened, read, Ended}
use Rattle.field.specs.Front.{body_of, behind_of}
use Rattle.field.specs.Fields.{IsFront, IsEnd, GivesField}
use Rattle.field.specs.declared.reader.Field.{Field}
use Rattle.field.specs.declared.reader.Fields.{Fields}
use Rattle.std.specs.Iterator.{Yields, FindsItem}
use Rattle.std.specs.List.{FoldsTo}
use Rattle.std.specs.Fn.{CalledAt}
use Rattle.std.specs.Prelude.{Option, Some}
use Rattle.std.specs.Borrow.{Bor}
use denote.Param.Members.{Mut}
use mathlib.Core.List.{List, [], ◌∷◌}
use lib.ListN.{length}
use Rattle.field.proofs.FrontLaws.{read_at, leaf_at, nest_at}
use Rattle.page.specs.Page.{Pieces, no_pieces, source_piece, tag_piece}
use Rattle.page.specs.Tree.{choose, pieces_in, element_in, fragment_in}
use Rattle.sums.specs.Machine.{sum_of}
use Rattle.sums.specs.Value.{Worked}
use Rattle.std.specs.Prelude.{None}
use Rattle.std.proofs.lemmas.Bool.{or_parts}
use Rattle.worked.specs.Worked.{pieces_sum}
use Rattle.worked.specs.Row.{field_sum, is_piece, piece_before, IsPiece, NextPiece}
use Rattle.worked.proofs.Tests.{chosen, passed, or_true}

-- ---- what is no piece is passed over

skipped : (t : ℕ) (f : Bytes) (i r : Row) → is_piece t ≡ false → pieces_in (field t f i r) ≡ pieces_in r
unfolding is_piece pieces_in
skipped t f i r e =
    let a = or_parts (eqb t 0x20) (eqb t 0x30 || eqb t 0x31) e in
    let b = or_parts (eqb t 0x30) (eqb t 0x31) a.1 in
    passed (eqb t 0x20) _ _ a.0 ∙ passed (eqb t 0x30) _ _ b.0 ∙ passed (eqb t 0x31) _ _ b.1

opened_skipped : (c : Inside) (t : ℕ) (w r : Bytes) → is_piece t ≡ false → pieces_in (opened c read t w r) ≡ pieces_in (read r)
unfolding opened
opened_skipped only_bytes t w r e = skipped t w end (read r) e
opened_skipped (fields_after n) t w r e = skipped t (take n w) (read (drop n w)) (read r) e
opened_skipped (counted n) t w r e = skipped t (take (counted_front n w) w) (read (drop (counted_front n w) w)) (read r) e

pub none_in : (r : Row) → Ended r → pieces_in r ≡ no_pieces
unfolding pieces_in
none_in end e = refl
none_in (loose b) e = refl
none_in (field t f i r) e = absurd e

-- ---- the field in front

module _ {s : Bytes} {t : ℕ} {w r : Bytes} (g : IsFront s t w r) where
  stands : t ≡ 256 → ⊥
  stands z = omega (arith, g.tag_below)

  pub passed_over : is_piece t ≡ false → pieces_in (read s) ≡ pieces_in (read r)
  passed_over e =
      ap pieces_in (read_at s t g.tag_is stands) ∙ opened_skipped (inside t) t (body_of s) (behind_of s) e ∙ ap (λ (x : Bytes). pieces_in (read x)) (sym g.behind_is)

  before : (f : Bytes → Pieces → Pieces) → pieces_in (read s) ≡ f (body_of s) (pieces_in (read (behind_of s))) → pieces_in (read s) ≡ f w (pieces_in (read r))
  before f e = e ∙ ap₂ (λ (x y : Bytes). f x (pieces_in (read y))) (sym g.body_is) (sym g.behind_is)

  pub piece_in : is_piece t ≡ true → pieces_in (read s) ≡ piece_before t w (pieces_in (read r))
  unfolding is_piece piece_before pieces_in choose inside
  piece_in e =
      or_true (eqb t 0x20) (eqb t 0x30 || eqb t 0x31) e
      (λ a. before (λ b ps. source_piece b ps) (ap pieces_in (leaf_at s t g.tag_is 0x20 (eqb-true t 0x20 a) tt refl)) ∙ rw (a)) λ n e₁.
      or_true (eqb t 0x30) (eqb t 0x31) e₁
      (λ a. before (λ b ps. tag_piece (element_in (read b)) ps) (ap pieces_in (nest_at s t g.tag_is 0x30 (eqb-true t 0x30 a) tt refl)) ∙ rw (n, a)) λ m e₂.
      before (λ b ps. tag_piece (fragment_in (read b)) ps) (ap pieces_in (nest_at s t g.tag_is 0x31 (eqb-true t 0x31 e₂) tt refl)) ∙ rw (n, m)

-- the fields that a search passes over
passed_by : {F : Type 0} {R : F → Field → F → Type 0} → ((p : F) (x : Field) (q : F) → R p x q → is_piece x.tag ≡ false) → (xs : List Field) (s t : Fields) (p q : F) → Yields GivesField s xs t → FoldsTo R p xs q →
    (pieces_in (read s.0.now) ≡ pieces_in (read t.0.now)) × (length t.0.now ≤ length s.0.now)
passed_by k [] s t p q y f = (ap (λ (z : Fields). pieces_in (read z.0.now)) y, omega (arith, ap (λ (z : Fields). length z.0.now) y))
passed_by k (x ∷ xs) s t p q (j, g, y) (h, r, f) = let i = passed_by k xs j t h q y f in (passed_over g (k p x h r) ∙ i.0, omega (arith, g.sizes, i.1))

-- the first that it doesn't pass over
pub next_is : {F : Type 0} {g : Mut F (Bor Field × Unit {0}) Bool} (s u : Fields) (f : F) (r : Option Field) → FindsItem GivesField g s f r u → ((p : F) (x : Field) (b : Bool) (q : F) → CalledAt g p x b q → b ≡ is_piece x.tag) → NextPiece s.0.now r u.0.now
next_is s u f None (xs, j, (t, y, e), h, z) k =
    let i = passed_by (λ p x q c. sym (k p x false q c)) xs s t f j y h in
    record { pieces_are = i.0 ∙ none_in _ e.ended; at_end = subst (λ (x : Bytes). IsEnd x x) (sym e.stays) (record { ended = e.ended; no_tag = e.no_tag; stays = refl }); rest_within = omega (arith, ap length e.stays, i.1) }
next_is s u f (Some x) (xs, j, (t, y, e), h, (l, z)) k =
    let i = passed_by (λ p x q c. sym (k p x false q c)) xs s t f j y h in
    let a : is_piece x.tag ≡ true = sym (k j x true l z) in
    record { pieces_are = i.0 ∙ piece_in e a; tag_is = a; sizes = omega (arith, e.sizes, i.1) }

-- ---- the answers of the code

pub no_79 : (t : ℕ) (i : Row) → (t ≡ 0x79 → ⊥) → None ≡ field_sum t i
unfolding field_sum
no_79 t i n = sym (passed (eqb t 0x79) _ _ (ne_eqb t 0x79 n))

a_79 : (t : ℕ) (i : Row) → t ≡ 0x79 → field_sum t i ≡ pieces_sum (pieces_in i)
unfolding field_sum
a_79 t i e = chosen (eqb t 0x79) _ _ (eq-eqb t 0x79 e)

module _ (t : ℕ) (w : Bytes) (e : t ≡ 0x79) where
  pub no_piece : pieces_in (read w) ≡ no_pieces → None ≡ field_sum t (read w)
  unfolding pieces_sum
  no_piece z = sym (a_79 t (read w) e ∙ ap pieces_sum z)

  module _ {u : ℕ} {b r : Bytes} (p : IsPiece w u b r) where
    -- a tag comes first
    pub no_source : (u ≡ 0x20 → ⊥) → None ≡ field_sum t (read w)
    unfolding pieces_sum piece_before choose
    no_source n = sym (a_79 t (read w) e ∙ ap pieces_sum p.pieces_are ∙ on (eqb u 0x30) refl)
      where
        on : (x : Bool) → eqb u 0x30 ≡ x → pieces_sum (piece_before u b (pieces_in (read r))) ≡ None
        on true k = rw (ne_eqb u 0x20 n, k)
        on false k = rw (ne_eqb u 0x20 n, k)

    module _ (z : u ≡ 0x20) where
      split : field_sum t (read w) ≡ pieces_sum (source_piece b (pieces_in (read r)))
      unfolding piece_before choose
      split = a_79 t (read w) e ∙ ap pieces_sum p.pieces_are ∙ ap (λ (x : ℕ). pieces_sum (piece_before x b (pieces_in (read r)))) z

      -- a piece comes behind it
      pub not_alone : {v : ℕ} {c q : Bytes} → IsPiece r v c q → None ≡ field_sum t (read w)
      unfolding pieces_sum piece_before choose
      not_alone {v} {c} {q} k = sym (split ∙ ap (λ (x : Pieces). pieces_sum (source_piece b x)) k.pieces_are ∙ on (eqb v 0x20) (eqb v 0x30) refl refl)
        where
          on : (x y : Bool) → eqb v 0x20 ≡ x → eqb v 0x30 ≡ y → pieces_sum (source_piece b (piece_before v c (pieces_in (read q)))) ≡ None
          on true y i j = rw i
          on false true i j = rw (i, j)
          on false false i j = rw (i, j)

      pub alone : pieces_in (read r) ≡ no_pieces → {x : Worked} → x ≡ sum_of b → x ≡ field_sum t (read w)
      unfolding pieces_sum
      alone k {x} s = s ∙ sym (split ∙ ap (λ (y : Pieces). pieces_sum (source_piece b y)) k)

    -- another piece comes behind it
    pub two_pieces : {v : ℕ} {c q : Bytes} → IsPiece r v c q → None ≡ field_sum t (read w)
    two_pieces k = on (eqb u 0x20) refl
      where
        on : (x : Bool) → eqb u 0x20 ≡ x → None ≡ field_sum t (read w)
        on true i = not_alone (eqb-true u 0x20 i) k
        on false i = no_source (eqb-false u 0x20 i)
