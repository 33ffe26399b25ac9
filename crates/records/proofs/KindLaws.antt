-- The kinds of a template's gaps: what the text leaves behind, read from the back; and the strings as they stand in a buffer, whose kinds are
-- those of demand 3's places. Main statements: `sign_append`, `sign_inside`, `kinds_standing`, `one_written`, `kinds_put`. Assumes nothing.
use mathlib.Core.Path.{◌≡◌, refl, sym, ap, ap₂, ◌∙◌, subst}
use Prim.Native.Nat.{ℕ, zero, suc, ◌+◌, ◌-◌, ◌≤◌, ◌<◌}
use native.Mathlib.Omega.{arith}
use mathlib.Core.Bool.{Bool, true, false, ◌&&◌, ◌||◌, not}
use mathlib.Core.List.{List, [], ◌∷◌, ◌++◌, append-nil, append_assoc}
use mathlib.Core.Logic.{◌⊎◌, inl, inr}
use mathlib.Core.Option.{Option, none, some}
use lib.Dec.{T, eqb}
use lib.ListN.{length, set, take, drop, get_or, length-append, length-drop, length-set, take-append-drop}
use lib.Seq.{drop-cons, drop-drop, length-take-le, take-append-le, drop-append-le, drop-append_seam}
use borrow.Author.Tests.{eq-eqb, ne_eqb}
use Rattle.field.specs.Bytes.{Bytes, pick}
use Rattle.field.specs.Row.{bytes, field_bytes, Inside, only_bytes, fields_after, counted, inside, Next, nothing, no_field, next, next_of, opened, built, read, Ended}
use Rattle.field.specs.Front.{body_by, behind_by, body_of, behind_of}
use Rattle.field.specs.Put.{put}
use Rattle.field.proofs.RowLaws.{read_step}
use Rattle.field.proofs.PutLaws.{length_field_bytes, put_nil, put_one, put_put, put_whole, put_fits}
use Rattle.field.proofs.FrontLaws.{body_written, behind_written}
use Rattle.spec.specs.Words.{free, behind_last, holds, starts_with, opening, inside_opening_tag, places_after}
use Rattle.spec.specs.Output.{kind_byte, kind_bytes, strings_row}
use Rattle.records.specs.declared.kinds.Sign.{Sign}
use Rattle.records.specs.declared.kinds.Sign.TheVariants as Q
use Rattle.records.specs.Kinds.{sign_of, sign, sign_after, kind_at, kinds_at}

-- ---- one text behind the other

pub sign_append : (q : ℕ) (a b : Bytes) → sign_after q (a ++ b) ≡ sign_after (sign_after q a) b
unfolding sign_after
sign_append q [] b = refl
sign_append q (c ∷ a) b = sign_append (sign q c) a b

-- ---- a text without a sign: only its first byte matters, and only behind a `<`

abbrev pub first_by : Bytes → ℕ
first_by [] = 2
first_by (c ∷ cs) = pick (eqb c 47) 0 1

-- its first byte is no sign, and neither is any other
free_head : (c : ℕ) (cs : Bytes) → T (free (c ∷ cs)) → (eqb c 60 ≡ false) × ((eqb c 62 ≡ false) × T (free cs))
unfolding free
free_head c cs t = on (eqb c 60) (eqb c 62) t
  where
    on : (a b : Bool) → T (not a && (not b && free cs)) → (a ≡ false) × ((b ≡ false) × T (free cs))
    on false false h = (refl, (refl, h))
    on true b h = absurd h
    on false true h = absurd h

sign_plain : (q c : ℕ) → eqb c 60 ≡ false → eqb c 62 ≡ false → sign q c ≡ pick (eqb q 2) (pick (eqb c 47) 0 1) q
sign_plain q c a b = rw (a, b)

-- away from a `<`, nothing changes
pub stays : (q : ℕ) (s : Bytes) → eqb q 2 ≡ false → T (free s) → sign_after q s ≡ q
unfolding sign_after
stays q [] n t = refl
stays q (c ∷ cs) n t =
    let h = free_head c cs t in
    let e : sign q c ≡ q = sign_plain q c h.0 h.1.0 ∙ ap (λ (b : Bool). pick b (pick (eqb c 47) 0 1) q) n in
    ap (λ (x : ℕ). sign_after x cs) e ∙ stays q cs n h.1.1

pub behind_open : (s : Bytes) → T (free s) → sign_after 2 s ≡ first_by s
unfolding sign_after
behind_open [] t = refl
behind_open (c ∷ cs) t =
    let h = free_head c cs t in
    ap (λ (x : ℕ). sign_after x cs) (sign_plain 2 c h.0 h.1.0) ∙ on (eqb c 47) h.1.1
  where
    on : (b : Bool) → T (free cs) → sign_after (pick b 0 1) cs ≡ pick b 0 1
    on true f = stays 0 cs refl f
    on false f = stays 1 cs refl f

-- ---- from the back: a byte in front of a text without a sign

module _ (q : ℕ) (s : Bytes) (i j : ℕ) (step : i ≡ suc j) (h : i ≤ length s) (f : T (free (drop i s))) where
  split : s ≡ take j s ++ (get_or s j 0 ∷ drop i s)
  split = sym (take-append-drop j s) ∙ ap (λ (x : Bytes). take j s ++ x) (drop-cons s j 0 (omega arith) ∙ ap (λ (k : ℕ). get_or s j 0 ∷ drop k s) (sym step))

  sign_split : sign_after q s ≡ sign_after (sign (sign_after q (take j s)) (get_or s j 0)) (drop i s)
  unfolding sign_after
  sign_split = ap (sign_after q) split ∙ sign_append q (take j s) (get_or s j 0 ∷ drop i s)

  pub at_close : get_or s j 0 ≡ 62 → 0 ≡ sign_after q s
  at_close e =
      let z : sign (sign_after q (take j s)) (get_or s j 0) ≡ 0 = ap (sign (sign_after q (take j s))) e in
      sym (sign_split ∙ ap (λ (x : ℕ). sign_after x (drop i s)) z ∙ stays 0 (drop i s) refl f)

  pub at_open : get_or s j 0 ≡ 60 → {r : ℕ} → r ≡ sign_after 2 (drop i s) → r ≡ sign_after q s
  at_open e g =
      let z : sign (sign_after q (take j s)) (get_or s j 0) ≡ 2 = ap (sign (sign_after q (take j s))) e in
      g ∙ sym (sign_split ∙ ap (λ (x : ℕ). sign_after x (drop i s)) z)

-- no byte is a sign
pub no_sign : (s : Bytes) → ((k : ℕ) → k < length s → (get_or s k 0 ≡ 60 → ⊥) × (get_or s k 0 ≡ 62 → ⊥)) → T (free s)
unfolding free
no_sign [] h = tt
no_sign (c ∷ s) h =
    let e = ne_eqb c 60 (h 0 (omega arith)).0 in
    let g = ne_eqb c 62 (h 0 (omega arith)).1 in
    let t : T (free s) = no_sign s (λ k l. h (suc k) (omega arith)) in
    subst (λ (b : Bool). T (not b && (not (eqb c 62) && free s))) (sym e) (subst (λ (b : Bool). T (not b && free s)) (sym g) t)

-- and none behind place i
pub free_behind : (s : Bytes) (i : ℕ) → ((k : ℕ) → i < k → k < length s → (get_or s k 0 ≡ 60 → ⊥) × (get_or s k 0 ≡ 62 → ⊥)) → T (free (drop (suc i) s))
unfolding free
free_behind [] i h = tt
free_behind (c ∷ s) zero h = no_sign s (λ k l. h (suc k) (omega arith) (omega arith))
free_behind (c ∷ s) (suc i) h = free_behind s i (λ k l m. h (suc k) (omega arith) (omega arith))

-- ---- a text without a sign, as the code tests it

pub not_opened : {q : Sign} → (q ≡ Q.Outside) ⊎ (q ≡ Q.Inside) → eqb (sign_of q) 2 ≡ false
not_opened (inl e) = ap (λ (x : Sign). eqb (sign_of x) 2) e
not_opened (inr e) = ap (λ (x : Sign). eqb (sign_of x) 2) e

pub unchanged : (q : ℕ) (s : Bytes) → eqb q 2 ≡ false → T (free s) → q ≡ sign_after q s
unchanged q s n f = sym (stays q s n f)

pub right_behind : (s : Bytes) → T (free s) → length s < 1 → 2 ≡ sign_after 2 s
right_behind [] f h = sym (behind_open [] f)
right_behind (c ∷ cs) f h = absurd (omega (arith, h))

pub closing_tag : (s : Bytes) → T (free s) → 1 ≤ length s → get_or s 0 0 ≡ 47 → 0 ≡ sign_after 2 s
closing_tag [] f h g = absurd (omega (arith, h))
closing_tag (c ∷ cs) f h g = sym (behind_open (c ∷ cs) f ∙ ap (λ (b : Bool). pick b 0 1) (eq-eqb c 47 g))

pub opening_tag : (s : Bytes) → T (free s) → 1 ≤ length s → (get_or s 0 0 ≡ 47 → ⊥) → 1 ≡ sign_after 2 s
opening_tag [] f h g = absurd (omega (arith, h))
opening_tag (c ∷ cs) f h g = sym (behind_open (c ∷ cs) f ∙ ap (λ (b : Bool). pick b 0 1) (ne_eqb c 47 g))

-- ---- the sign and demand 3's place

-- what stands behind the last `<` decides, whatever was before
behind_some : (q : ℕ) (w t : Bytes) → behind_last w ≡ some t → (sign_after q w ≡ sign_after 2 t) × (behind_last t ≡ none)
unfolding behind_last sign_after
behind_some q [] t e = absurd (let k : ◌≡◌ {A = ℕ} 0 1 = cc in omega arith)
behind_some q (c ∷ cs) t e = on (behind_some (sign q c) cs t) (behind_last cs) refl e
  where
    last : (b : Bool) → eqb c 60 ≡ b → behind_last cs ≡ none → pick b (some cs) none ≡ some t → (sign_after (sign q c) cs ≡ sign_after 2 t) × (behind_last t ≡ none)
    last true m n g =
        let s : cs ≡ t = cc in
        (ap (λ (x : ℕ). sign_after x cs) (ap (λ (b : Bool). pick b 2 (pick (eqb c 62) 0 (pick (eqb q 2) (pick (eqb c 47) 0 1) q))) m) ∙ ap (sign_after 2) s, ap behind_last (sym s) ∙ n)
    last false m n g = absurd (let z : none ≡ some t = g in let k : ◌≡◌ {A = ℕ} 0 1 = cc in omega arith)

    on : (behind_last cs ≡ some t → (sign_after (sign q c) cs ≡ sign_after 2 t) × (behind_last t ≡ none)) → (x : Option Bytes) → behind_last cs ≡ x → (elim x [ some u ↦ some u | none ↦ pick (eqb c 60) (some cs) none ]) ≡ some t → (sign_after (sign q c) cs ≡ sign_after 2 t) × (behind_last t ≡ none)
    on ih (some u) m g = let s : u ≡ t = cc in ih (m ∙ ap some s)
    on ih none m g = last (eqb c 60) refl m g

-- no `<`: outside stays outside, and inside an opening tag a `>` leads out
no_open : (c : ℕ) (cs : Bytes) → behind_last (c ∷ cs) ≡ none → (eqb c 60 ≡ false) × (behind_last cs ≡ none)
unfolding behind_last
no_open c cs e = on (behind_last cs) refl e
  where
    last : (b : Bool) → eqb c 60 ≡ b → ◌≡◌ {A = Option Bytes} (pick b (some cs) none) none → eqb c 60 ≡ false
    last true m g = absurd (let z : ◌≡◌ {A = Option Bytes} (some cs) none = g in let k : ◌≡◌ {A = ℕ} 0 1 = cc in omega arith)
    last false m g = m

    on : (x : Option Bytes) → behind_last cs ≡ x → ◌≡◌ {A = Option Bytes} (elim x [ some u ↦ some u | none ↦ pick (eqb c 60) (some cs) none ]) none → (eqb c 60 ≡ false) × (behind_last cs ≡ none)
    on (some u) m g = absurd (let k : ◌≡◌ {A = ℕ} 0 1 = cc in omega arith)
    on none m g = (last (eqb c 60) refl g, m)

outside_stays : (w : Bytes) → behind_last w ≡ none → sign_after 0 w ≡ 0
unfolding sign_after
outside_stays [] e = refl
outside_stays (c ∷ cs) e =
    let h = no_open c cs e in
    let z : sign 0 c ≡ 0 = ap (λ (b : Bool). pick b 2 (pick (eqb c 62) 0 0)) h.0 ∙ on (eqb c 62) in
    ap (λ (x : ℕ). sign_after x cs) z ∙ outside_stays cs h.1
  where
    on : (b : Bool) → ◌≡◌ {A = ℕ} (pick b 0 0) 0
    on true = refl
    on false = refl

inside_until : (w : Bytes) → behind_last w ≡ none → sign_after 1 w ≡ pick (holds 62 w) 0 1
unfolding sign_after holds
inside_until [] e = refl
inside_until (c ∷ cs) e =
    let h = no_open c cs e in
    ap (λ (x : ℕ). sign_after x cs) (ap (λ (b : Bool). pick b 2 (pick (eqb c 62) 0 1)) h.0) ∙ on (eqb c 62) (outside_stays cs h.1) (inside_until cs h.1)
  where
    on : (b : Bool) → sign_after 0 cs ≡ 0 → sign_after 1 cs ≡ pick (holds 62 cs) 0 1 → sign_after (pick b 0 1) cs ≡ pick (b || holds 62 cs) 0 1
    on true p q = p
    on false p q = q

-- right behind a `<`
behind_kind : (t : Bytes) → behind_last t ≡ none → kind_at (sign_after 2 t) ≡ kind_byte (not (holds 62 t) && not (starts_with 47 t))
unfolding sign_after holds starts_with
behind_kind [] e = refl
behind_kind (c ∷ cs) e =
    let h = no_open c cs e in
    ap (λ (x : ℕ). kind_at (sign_after x cs)) (ap (λ (b : Bool). pick b 2 (pick (eqb c 62) 0 (pick (eqb c 47) 0 1))) h.0)
    ∙ on (eqb c 62) (eqb c 47) (outside_stays cs h.1) (inside_until cs h.1)
  where
    kind_of : (b : Bool) → kind_at (pick b 0 1) ≡ kind_byte (not b && true)
    kind_of true = refl
    kind_of false = refl

    not_both : (b : Bool) → 2 ≡ kind_byte (not b && false)
    not_both true = refl
    not_both false = refl

    on : (a b : Bool) → sign_after 0 cs ≡ 0 → sign_after 1 cs ≡ pick (holds 62 cs) 0 1 → kind_at (sign_after (pick a 0 (pick b 0 1)) cs) ≡ kind_byte (not (a || holds 62 cs) && not b)
    on true b p q = ap kind_at p
    on false true p q = ap kind_at p ∙ not_both (holds 62 cs)
    on false false p q = ap kind_at q ∙ kind_of (holds 62 cs)

pub sign_inside : (w : Bytes) → kind_at (sign_after 0 w) ≡ kind_byte (inside_opening_tag w)
unfolding inside_opening_tag opening
sign_inside w = on (behind_last w) refl
  where
    on : (x : Option Bytes) → behind_last w ≡ x → kind_at (sign_after 0 w) ≡ kind_byte (opening x)
    on none e = ap kind_at (outside_stays w e)
    on (some t) e = let h = behind_some 0 w t e in ap kind_at h.0 ∙ behind_kind t h.1

-- ---- the strings of a template, as they stand

pub length_kind_bytes : (ks : List Bool) → length (kind_bytes ks) ≡ length ks
unfolding kind_bytes
length_kind_bytes [] = refl
length_kind_bytes (k ∷ ks) = ap suc (length_kind_bytes ks)

-- a dynamic expression between any two
pub length_places : (j s : Bytes) (ss : List Bytes) → suc (length (places_after j (s ∷ ss))) ≡ length (s ∷ ss)
unfolding places_after
length_places j s [] = refl
length_places j s (t ∷ ss) = ap suc (length_places (j ++ s) t ss)

pub kinds_standing : (ss : List Bytes) (j r : Bytes) → length (bytes (strings_row ss)) ≤ 65535 → kinds_at (length (places_after j ss)) (sign_after 0 j) (bytes (strings_row ss) ++ r) ≡ kind_bytes (places_after j ss)
unfolding kinds_at places_after kind_bytes strings_row bytes
kinds_standing [] j r h = refl
kinds_standing (s ∷ []) j r h = refl
kinds_standing (s ∷ t ∷ ss) j r h =
    let rest = bytes (strings_row (t ∷ ss)) in
    let f = field_bytes 0x81 (s ++ []) in
    let short : length (s ++ []) ≤ 65535 = omega (arith, length-append f rest, length_field_bytes 0x81 (s ++ [])) in
    let less : length rest ≤ 65535 = omega (arith, length-append f rest) in
    let whole : (f ++ rest) ++ r ≡ f ++ (rest ++ r) = append_assoc f rest r in
    let b : body_of ((f ++ rest) ++ r) ≡ s = ap body_of whole ∙ body_written 0x81 (s ++ []) (rest ++ r) short ∙ append-nil s in
    let d : behind_of ((f ++ rest) ++ r) ≡ rest ++ r = ap behind_of whole ∙ behind_written 0x81 (s ++ []) (rest ++ r) short in
    let q : sign_after (sign_after 0 j) (body_of ((f ++ rest) ++ r)) ≡ sign_after 0 (j ++ s) = ap (sign_after (sign_after 0 j)) b ∙ sym (sign_append 0 j s) in
    let k = length (places_after (j ++ s) (t ∷ ss)) in
    ap₂ (λ (x : ℕ) (y : Bytes). kind_at x ∷ kinds_at k x y) q d ∙ ap₂ (λ (x : ℕ) (y : Bytes). x ∷ y) (sign_inside (j ++ s)) (kinds_standing (t ∷ ss) (j ++ s) r less)

-- ---- one gap after the other

pub length_kinds : (n q : ℕ) (s : Bytes) → length (kinds_at n q s) ≡ n
unfolding kinds_at
length_kinds zero q s = refl
length_kinds (suc n) q s = ap suc (length_kinds n (sign_after q (body_of s)) (behind_of s))

-- what is still to be written from i on, with the sign q and the strings s left
abbrev pub to_come : Bytes → ℕ → ℕ → Bytes → Bytes
to_come ks i q s = put ks i (kinds_at (length ks - i) q s)

pub none_written : (ks s : Bytes) → to_come ks 0 0 s ≡ kinds_at (length ks) 0 s
none_written ks s = let z : length ks - 0 ≡ length ks = omega arith in ap (λ (n : ℕ). put ks 0 (kinds_at n 0 s)) z ∙ put_whole ks (kinds_at (length ks) 0 s) (length_kinds (length ks) 0 s)

pub one_written : (ks : Bytes) (i q : ℕ) (s : Bytes) {b r : Bytes} {q' k : ℕ} → i < length ks → b ≡ body_of s → r ≡ behind_of s → q' ≡ sign_after q b → k ≡ kind_at q' → to_come (set ks i k) (i + 1) q' r ≡ to_come ks i q s
unfolding kinds_at
one_written ks i q s {b} {r} {q'} {k} h e f g d =
    let n : length ks - i ≡ suc (length (set ks i k) - (i + 1)) = omega (arith, length-set ks i k) in
    let m = length (set ks i k) - (i + 1) in
    let z : q' ≡ sign_after q (body_of s) = g ∙ ap (sign_after q) e in
    ap (λ (x : Bytes). put x (i + 1) (kinds_at m q' r)) (sym (put_one ks i k h))
    ∙ put_put ks i (k ∷ []) (kinds_at m q' r)
    ∙ ap₂ (λ (x : ℕ) (y : Bytes). put ks i (x ∷ y)) (d ∙ ap kind_at z) (ap₂ (kinds_at m) z f)
    ∙ sym (ap (λ (x : ℕ). put ks i (kinds_at x q s)) n)

-- where the strings run out, nothing is left to read
gone_by : (s : Bytes) (n : Next) → Ended (built read s n) → (body_by n ≡ []) × (behind_by n ≡ [])
unfolding built opened
gone_by s nothing i = (refl, refl)
gone_by s no_field i = (refl, refl)
gone_by s (next t w r) i = absurd (on (inside t) i)
  where
    on : (c : Inside) → Ended (opened c read t w r) → ⊥
    on only_bytes i = i
    on (fields_after k) i = i
    on (counted k) i = i

gone : (s : Bytes) → Ended (read s) → (body_of s ≡ []) × (behind_of s ≡ [])
unfolding body_of behind_of
gone s i = gone_by s (next_of s) (subst Ended (read_step s) i)

kinds_gone : (n q : ℕ) (s : Bytes) → Ended (read s) → kinds_at n q s ≡ kinds_at n q []
unfolding kinds_at body_of behind_of next_of
kinds_gone zero q s i = refl
kinds_gone (suc n) q s i = let g = gone s i in ap₂ (λ (x y : Bytes). kind_at (sign_after q x) ∷ kinds_at n (sign_after q x) y) g.0 g.1

-- then the sign stays
pub gone_written : (ks : Bytes) (i q : ℕ) (s : Bytes) {r : Bytes} {k : ℕ} → i < length ks → Ended (read s) → r ≡ s → k ≡ kind_at q → to_come (set ks i k) (i + 1) q r ≡ to_come ks i q s
unfolding sign_after
gone_written ks i q s {r} {k} h e f d =
    let g = gone s e in
    ap (λ (x : Bytes). put (set ks i k) (i + 1) (kinds_at (length (set ks i k) - (i + 1)) q x)) f
    ∙ ap (put (set ks i k) (i + 1)) (kinds_gone (length (set ks i k) - (i + 1)) q s e)
    ∙ one_written ks i q s h (sym g.0) (sym g.1) refl d

pub all_written : (ks : Bytes) (i q : ℕ) (s : Bytes) → length ks ≤ i → ks ≡ to_come ks i q s
unfolding kinds_at
all_written ks i q s h =
    let z : length ks - i ≡ 0 = omega arith in
    sym (ap (λ (n : ℕ). put ks i (kinds_at n q s)) z ∙ put_nil ks i)

-- the kinds stand in the front of a buffer, the strings behind it
pub kinds_put : (front back o : Bytes) (at from gaps : ℕ) {ks : Bytes} → o ≡ front ++ back → length front ≡ from → at + gaps ≤ from →
    ks ≡ kinds_at (length (take (at + gaps - at) (drop at front))) 0 back →
    (take at front ++ (ks ++ drop (at + gaps - at) (drop at front))) ++ back ≡ put o at (kinds_at gaps 0 (drop from o))
kinds_put front back o at from gaps {ks} e l h k =
    let g : at + gaps - at ≡ gaps = omega arith in
    let n : length (take (at + gaps - at) (drop at front)) ≡ gaps = length-take-le (at + gaps - at) (drop at front) (omega (arith, length-drop at front)) ∙ g in
    let d : drop from o ≡ back = ap₂ (λ (x : ℕ) (y : Bytes). drop x y) (sym l) e ∙ drop-append_seam front back in
    let w : ks ≡ kinds_at gaps 0 (drop from o) = k ∙ ap₂ (λ (x : ℕ) (y : Bytes). kinds_at x 0 y) n (sym d) in
    let m : length (kinds_at gaps 0 (drop from o)) ≡ gaps = length_kinds gaps 0 (drop from o) in
    let v = kinds_at gaps 0 (drop from o) in
    let end_is : at + (at + gaps - at) ≡ at + length v = omega (arith, m) in
    let rest : drop (at + gaps - at) (drop at front) ++ back ≡ drop (at + length v) o =
    ap (λ (x : Bytes). x ++ back) (drop-drop (at + gaps - at) at front)
    ∙ sym (drop-append-le (at + (at + gaps - at)) front back (omega arith))
    ∙ ap₂ (λ (x : ℕ) (y : Bytes). drop x y) end_is (sym e) in
    append_assoc (take at front) (ks ++ drop (at + gaps - at) (drop at front)) back
    ∙ ap₂ (λ (x y : Bytes). x ++ y) (sym (take-append-le at front back (omega arith)) ∙ ap (take at) (sym e)) (append_assoc ks (drop (at + gaps - at) (drop at front)) back ∙ ap₂ (λ (x y : Bytes). x ++ y) w rest)
    ∙ sym (put_fits o at v (omega (arith, m, ap length e ∙ length-append front back)))
