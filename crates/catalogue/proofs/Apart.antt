-- A14's two catalogues: what one house has within its guarantee, no call of another house can tell. Main statements: `apart_number`,
-- `apart_pages`.
-- Assumes nothing but what `Given` says.
use Prim.Native.Nat.{ℕ, ◌+◌, ◌-◌, ◌≤◌}
use mathlib.Core.Path.{◌≡◌, refl, sym, ap, ap₂, ◌∙◌, subst}
use mathlib.Core.Bool.{Bool, true, false, ◌||◌, not, true≢false}
use mathlib.Core.List.{List, [], ◌∷◌, ◌++◌}
use mathlib.Core.Logic.{◌⊎◌, inl, inr}
use native.Mathlib.Omega.{arith}
use lib.Dec.{leb, eqb}
use lib.ListN.{length}
use Rattle.std.proofs.lemmas.Bool.{cases_Bool}
use borrow.Author.Tests.{eqb-true, ne_eqb, eqb-false}
use Rattle.field.specs.Bytes.{Bytes, pick}
use Rattle.catalogue.specs.Page.{Page, Request, A14, Given}
use Rattle.catalogue.specs.Catalogue.{size, row_size, present, Holds}
use Rattle.catalogue.specs.Shares.{Shares, total, used, unused, but, unused_of_others, others}
use Rattle.catalogue.specs.Calls.{Outcome, remain, unless, room, call_right, arrival, without, leaving, Call, arrives, leaves, called, number, answer, after_call, listed, pages_of, Handed}
use Rattle.catalogue.specs.Words.{remaining, asked, named_in, OfAnother, Alike}
use Rattle.catalogue.proofs.Exact.{read_back}
use Rattle.catalogue.proofs.Keeps.{outcome_held, accepted_kept, refused_kept}
use Rattle.catalogue.proofs.Sums.{total_split, total_but_same, but_there, but_else}
use Rattle.catalogue.proofs.Guarantee.{unused_is}

-- ---- the pages of the other houses

others_size : (G : Given) (g : ℕ) (ps : List Page) → row_size G.format ps ≡ row_size G.format (others g ps) + used G.format g ps
unfolding row_size others used
others_size G g [] = refl
others_size G g (p ∷ ps) = on (eqb g p.house) (others_size G g ps)
  where
    on : (t : Bool) → row_size G.format ps ≡ row_size G.format (others g ps) + used G.format g ps
        → size G.format p + row_size G.format ps ≡ row_size G.format (pick t (others g ps) (p ∷ others g ps)) + (pick t (size G.format p) 0 + used G.format g ps)
    on true ih = omega arith
    on false ih = omega arith

others_used : (G : Given) (g k : ℕ) (ps : List Page) → (k ≡ g → ⊥) → used G.format k (others g ps) ≡ used G.format k ps
unfolding others used
others_used G g k [] d = refl
others_used G g k (p ∷ ps) d = on (cases_Bool (eqb g p.house)) (others_used G g k ps d)
  where
    on : (eqb g p.house ≡ true) ⊎ (eqb g p.house ≡ false) → used G.format k (others g ps) ≡ used G.format k ps
        → used G.format k (pick (eqb g p.house) (others g ps) (p ∷ others g ps)) ≡ pick (eqb k p.house) (size G.format p) 0 + used G.format k ps
    on (inl t) ih =
        let n : eqb k p.house ≡ false = ne_eqb k p.house (λ e. d (e ∙ sym (eqb-true g p.house t))) in
        ap (λ (q : Bool). used G.format k (pick q (others g ps) (p ∷ others g ps))) t ∙ ih ∙ omega (arith, ap (λ (q : Bool). pick q (size G.format p) 0 + used G.format k ps) n)
    on (inr t) ih = ap (λ (q : Bool). used G.format k (pick q (others g ps) (p ∷ others g ps))) t ∙ ap (λ (i : ℕ). pick (eqb k p.house) (size G.format p) 0 + i) ih

others_append : (g : ℕ) (ps qs : List Page) → others g (ps ++ qs) ≡ others g ps ++ others g qs
unfolding others
others_append g [] qs = refl
others_append g (p ∷ ps) qs = on (eqb g p.house) (others_append g ps qs)
  where
    on : (t : Bool) → others g (ps ++ qs) ≡ others g ps ++ others g qs
        → pick t (others g (ps ++ qs)) (p ∷ others g (ps ++ qs)) ≡ pick t (others g ps) (p ∷ others g ps) ++ others g qs
    on true ih = ih
    on false ih = ap (λ (l : List Page). p ∷ l) ih

-- the asked name is on none of the house's pages: then the others' pages decide
others_present : (g x : ℕ) (ps : List Page) → named_in g x ps ≡ false → present x ps ≡ present x (others g ps)
unfolding others present named_in
others_present g x [] n = refl
others_present g x (p ∷ ps) n = on (eqb g p.house) (cases_Bool (eqb x p.name)) n (others_present g x ps)
  where
    on : (t : Bool) → (eqb x p.name ≡ true) ⊎ (eqb x p.name ≡ false) → pick t (pick (eqb x p.name) true (named_in g x ps)) (named_in g x ps) ≡ false
        → (named_in g x ps ≡ false → present x ps ≡ present x (others g ps)) → (eqb x p.name || present x ps) ≡ present x (pick t (others g ps) (p ∷ others g ps))
    on true (inl u) m ih = absurd (true≢false (sym (ap (λ (q : Bool). pick q true (named_in g x ps)) u) ∙ m))
    on true (inr u) m ih = ap (λ (q : Bool). q || present x ps) u ∙ ih (sym (ap (λ (q : Bool). pick q true (named_in g x ps)) u) ∙ m)
    on false u m ih = ap (λ (q : Bool). eqb x p.name || q) (ih m)

others_without : (g x : ℕ) (ps : List Page) → named_in g x ps ≡ false → others g (without x ps) ≡ without x (others g ps)
unfolding others without named_in
others_without g x [] n = refl
others_without g x (p ∷ ps) n = on (cases_Bool (eqb g p.house)) (cases_Bool (eqb x p.name)) n (others_without g x ps)
  where
    Goal : Type 0
    Goal = others g (pick (eqb x p.name) ps (p ∷ without x ps)) ≡ without x (pick (eqb g p.house) (others g ps) (p ∷ others g ps))

    named : Bool → Bool → Bool
    named t u = pick t (pick u true (named_in g x ps)) (named_in g x ps)

    on : (eqb g p.house ≡ true) ⊎ (eqb g p.house ≡ false) → (eqb x p.name ≡ true) ⊎ (eqb x p.name ≡ false) → named (eqb g p.house) (eqb x p.name) ≡ false
        → (named_in g x ps ≡ false → others g (without x ps) ≡ without x (others g ps)) → Goal
    on (inl t) (inl u) m ih = absurd (true≢false (sym (ap₂ named t u) ∙ m))
    on (inl t) (inr u) m ih =
        ap (λ (q : Bool). others g (pick q ps (p ∷ without x ps))) u
        ∙ ap (λ (q : Bool). pick q (others g (without x ps)) (p ∷ others g (without x ps))) t
        ∙ ih (sym (ap₂ named t u) ∙ m)
        ∙ ap (λ (q : Bool). without x (pick q (others g ps) (p ∷ others g ps))) (sym t)
    on (inr t) (inl u) m ih =
        ap (λ (q : Bool). others g (pick q ps (p ∷ without x ps))) u
        ∙ ap (λ (q : Bool). pick q (others g ps) (p ∷ without x (others g ps))) (sym u)
        ∙ ap (λ (q : Bool). without x (pick q (others g ps) (p ∷ others g ps))) (sym t)
    on (inr t) (inr u) m ih =
        ap (λ (q : Bool). others g (pick q ps (p ∷ without x ps))) u
        ∙ ap (λ (q : Bool). pick q (others g (without x ps)) (p ∷ others g (without x ps))) t
        ∙ ap (λ (l : List Page). p ∷ l) (ih (sym (ap₂ named t u) ∙ m))
        ∙ ap (λ (q : Bool). pick q (others g ps) (p ∷ without x (others g ps))) (sym u)
        ∙ ap (λ (q : Bool). without x (pick q (others g ps) (p ∷ others g ps))) (sym t)

-- ---- the tests

unless_same : (t u : Bool) (n : ℕ) (o q : Outcome) → t ≡ u → number o ≡ number q → number (unless t n o) ≡ number (unless u n q)
unfolding number unless
unless_same t u n o q e f = ap (λ (z : Bool). number (unless z n o)) e ∙ on u
  where
    on : (z : Bool) → number (unless z n o) ≡ number (unless z n q)
    on true = f
    on false = refl

module _ (G : Given) (s : Shares) (g : ℕ) (ps qs : List Page) (l : 1 ≤ g) (m : g ≤ 16) (o : others g ps ≡ others g qs) (v : used G.format g ps - s.guarantee g ≡ used G.format g qs - s.guarantee g) where
  used_same : (k : ℕ) → (k ≡ g → ⊥) → used G.format k ps ≡ used G.format k qs
  used_same k d = sym (others_used G g k ps d) ∙ ap (used G.format k) o ∙ others_used G g k qs d

  unused_same : (k : ℕ) → (k ≡ g → ⊥) → unused G.format s ps k ≡ unused G.format s qs k
  unused_same k d = unused_is G s ps k (used G.format k qs) (used_same k d) ∙ sym (unused_is G s qs k (used G.format k qs) refl)

  -- what the house has above its guarantee is all that the others can tell of it
  sum_same : (h z : ℕ) → (h ≡ g → ⊥) → row_size G.format ps + z + unused_of_others G.format s ps h ≡ row_size G.format qs + z + unused_of_others G.format s qs h
  sum_same h z d =
      let f : ℕ → ℕ = but h (unused G.format s ps) in
      let f' : ℕ → ℕ = but h (unused G.format s qs) in
      let e₁ : unused_of_others G.format s ps h ≡ total (but g f) 16 + f g = total_split g f 16 l m in
      let e₂ : unused_of_others G.format s qs h ≡ total (but g f') 16 + f' g = total_split g f' 16 l m in
      let e₃ : total (but g f) 16 ≡ total (but g f') 16 = total_but_same g f f' 16 same in
      let n : g ≡ h → ⊥ = λ e. d (sym e) in
      let e₄ : f g ≡ s.guarantee g - used G.format g ps = but_else h (unused G.format s ps) g n ∙ unused_is G s ps g (used G.format g ps) refl in
      let e₅ : f' g ≡ s.guarantee g - used G.format g qs = but_else h (unused G.format s qs) g n ∙ unused_is G s qs g (used G.format g qs) refl in
      let e₆ : row_size G.format ps ≡ row_size G.format (others g qs) + used G.format g ps = others_size G g ps ∙ ap (λ (r : List Page). row_size G.format r + used G.format g ps) o in
      small (row_size G.format ps) (row_size G.format qs) (row_size G.format (others g qs)) (used G.format g ps) (used G.format g qs) (s.guarantee g) (total (but g f') 16) z (unused_of_others G.format s ps h) (unused_of_others G.format s qs h)
      e₆ (others_size G g qs) v (e₁ ∙ ap₂ (λ (i j : ℕ). i + j) e₃ e₄) (e₂ ∙ ap (λ (i : ℕ). total (but g f') 16 + i) e₅)
    where
      same : (k : ℕ) → (k ≡ g → ⊥) → but h (unused G.format s ps) k ≡ but h (unused G.format s qs) k
      same k n = on (cases_Bool (eqb k h))
        where
          on : (eqb k h ≡ true) ⊎ (eqb k h ≡ false) → but h (unused G.format s ps) k ≡ but h (unused G.format s qs) k
          on (inl t) = let q : k ≡ h = eqb-true k h t in ap (but h (unused G.format s ps)) q ∙ but_there h (unused G.format s ps) ∙ sym (but_there h (unused G.format s qs)) ∙ ap (but h (unused G.format s qs)) (sym q)
          on (inr t) = let w : k ≡ h → ⊥ = eqb-false k h t in but_else h (unused G.format s ps) k w ∙ unused_same k n ∙ sym (but_else h (unused G.format s qs) k w)

      small : (r r' w u u' c t z x y : ℕ) → r ≡ w + u → r' ≡ w + u' → u - c ≡ u' - c → x ≡ t + (c - u) → y ≡ t + (c - u') → r + z + x ≡ r' + z + y
      small r r' w u u' c t z x y a b e f k = omega arith

  number_arrival : (n : ℕ) (p : Page) → G.format.request ≡ A14 → (p.house ≡ g → ⊥) → present p.name ps ≡ present p.name qs
      → number (arrival G.format n s p ps) ≡ number (arrival G.format n s p qs)
  unfolding arrival room number
  number_arrival n p a d e =
      let h : ℕ = p.house in
      let j : ℕ = G.format.judge p.body in
      let w : number (room A14 G.format n s p ps) ≡ number (room A14 G.format n s p qs) =
      unless_same (leb (used G.format h ps + size G.format p) (s.most h)) (leb (used G.format h qs + size G.format p) (s.most h)) 24
      (unless (leb (row_size G.format ps + size G.format p + unused_of_others G.format s ps h) n) 25 (remain (ps ++ (p ∷ []))))
      (unless (leb (row_size G.format qs + size G.format p + unused_of_others G.format s qs h) n) 25 (remain (qs ++ (p ∷ []))))
      (ap (λ (k : ℕ). leb (k + size G.format p) (s.most h)) (used_same h d))
      (unless_same (leb (row_size G.format ps + size G.format p + unused_of_others G.format s ps h) n) (leb (row_size G.format qs + size G.format p + unused_of_others G.format s qs h) n) 25
      (remain (ps ++ (p ∷ []))) (remain (qs ++ (p ∷ []))) (ap (λ (k : ℕ). leb k n) (sum_same h (size G.format p) d)) refl) in
      let w' : number (room G.format.request G.format n s p ps) ≡ number (room G.format.request G.format n s p qs) =
      subst (λ (q : Request). number (room q G.format n s p ps) ≡ number (room q G.format n s p qs)) (sym a) w in
      let t : Bool = call_right G.format.request n s p in
      let o₁ : Outcome = unless (not (present p.name ps)) 21 (room G.format.request G.format n s p ps) in
      let o₂ : Outcome = unless (not (present p.name qs)) 21 (room G.format.request G.format n s p qs) in
      unless_same (eqb j 0) (eqb j 0) j (unless t 26 o₁) (unless t 26 o₂) refl
      (unless_same t t 26 o₁ o₂ refl
      (unless_same (not (present p.name ps)) (not (present p.name qs)) 21 (room G.format.request G.format n s p ps) (room G.format.request G.format n s p qs) (ap not e) w'))

  number_called : (n : ℕ) (c : Call) → G.format.request ≡ A14 → OfAnother g c → present (asked c) ps ≡ present (asked c) qs
      → number (called G.format n s c ps) ≡ number (called G.format n s c qs)
  unfolding called leaving number
  number_called n (arrives p) a d e = number_arrival n p a d e
  number_called n (leaves x) a d e = unless_same (present x ps) (present x qs) 22 (remain (without x ps)) (remain (without x qs)) e refl

-- ---- two catalogues

others_remaining : (g : ℕ) (c : Call) (ps qs : List Page) → others g ps ≡ others g qs → named_in g (asked c) ps ≡ false → named_in g (asked c) qs ≡ false
    → others g (remaining c ps) ≡ others g (remaining c qs)
others_remaining g (arrives p) ps qs o n₁ n₂ = others_append g ps (p ∷ []) ∙ ap (λ (l : List Page). l ++ others g (p ∷ [])) o ∙ sym (others_append g qs (p ∷ []))
others_remaining g (leaves x) ps qs o n₁ n₂ = others_without g x ps n₁ ∙ ap (without x) o ∙ sym (others_without g x qs n₂)

module _ (G : Given) (s : Shares) (g : ℕ) (c : Call) (b₁ : Bytes) (ps₁ : List Page) (b₂ : Bytes) (ps₂ : List Page)
    (a : G.format.request ≡ A14) (l : 1 ≤ g) (m : g ≤ 16) (k : Handed G.format c) (d : OfAnother g c) (w : Alike G.format s g c b₁ ps₁ b₂ ps₂) where
  -- A14: of two catalogues that only the pages of one house tell apart, as `Alike` says, a call of another house has one number
  pub apart_number : answer G.format s c b₁ ≡ answer G.format s c b₂
  apart_number =
      let x : ℕ = asked c in
      let e : present x ps₁ ≡ present x ps₂ = others_present g x ps₁ w.on_none₁ ∙ ap (present x) w.others_alike ∙ sym (others_present g x ps₂ w.on_none₂) in
      ap number (outcome_held G s c b₁ ps₁ w.sound₁)
      ∙ number_called G s g ps₁ ps₂ l m w.others_alike w.above_alike (length b₁) c a d e
      ∙ ap (λ (n : ℕ). number (called G.format n s c ps₂)) w.one_length
      ∙ ap number (sym (outcome_held G s c b₂ ps₂ w.sound₂))

  after_taken : (b : Bytes) (ps : List Page) → Holds G.format b ps → answer G.format s c b ≡ 0 → pages_of G.format (after_call G.format s c b) ≡ remaining c ps
  unfolding listed
  after_taken b ps h e = ap listed (read_back G (after_call G.format s c b) (remaining c ps) (accepted_kept G s b ps h c k e).holds_them)

  after_refused : (b : Bytes) (ps : List Page) → Holds G.format b ps → (answer G.format s c b ≡ 0 → ⊥) → pages_of G.format (after_call G.format s c b) ≡ ps
  unfolding listed
  after_refused b ps h f = ap (pages_of G.format) (refused_kept G s c b f) ∙ ap listed (read_back G b ps h)

  -- A14: and behind it both have the same pages of the other houses; each page of a list has its own numbers, from 1
  pub apart_pages : others g (pages_of G.format (after_call G.format s c b₁)) ≡ others g (pages_of G.format (after_call G.format s c b₂))
  apart_pages = on (cases_Bool (eqb (answer G.format s c b₁) 0))
    where
      on : (eqb (answer G.format s c b₁) 0 ≡ true) ⊎ (eqb (answer G.format s c b₁) 0 ≡ false) → others g (pages_of G.format (after_call G.format s c b₁)) ≡ others g (pages_of G.format (after_call G.format s c b₂))
      on (inl t) =
          let e : answer G.format s c b₁ ≡ 0 = eqb-true (answer G.format s c b₁) 0 t in
          ap (others g) (after_taken b₁ ps₁ w.sound₁ e)
          ∙ others_remaining g c ps₁ ps₂ w.others_alike w.on_none₁ w.on_none₂
          ∙ ap (others g) (sym (after_taken b₂ ps₂ w.sound₂ (sym apart_number ∙ e)))
      on (inr t) =
          let f : answer G.format s c b₁ ≡ 0 → ⊥ = eqb-false (answer G.format s c b₁) 0 t in
          ap (others g) (after_refused b₁ ps₁ w.sound₁ f) ∙ w.others_alike ∙ ap (others g) (sym (after_refused b₂ ps₂ w.sound₂ (λ e. f (apart_number ∙ e))))
