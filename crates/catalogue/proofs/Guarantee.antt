-- A14's guarantee over histories: the free bytes are at all times at least the unused guarantees together. Main statements: `guaranteed`,
-- `taken_exactly`.
-- Assumes nothing but what `Given` says.
use Prim.Native.Nat.{ℕ, ◌+◌, ◌-◌, ◌≤◌}
use mathlib.Core.Path.{◌≡◌, refl, sym, ap, ap₂, ◌∙◌, subst}
use mathlib.Core.Bool.{true, false, ◌&&◌}
use mathlib.Core.List.{List, [], ◌∷◌, ◌++◌}
use mathlib.Core.Logic.{◌⊎◌, inl, inr, ◌↔◌}
use native.Mathlib.Omega.{arith}
use lib.Dec.{leb, eqb}
use lib.ListN.{length, replicate, length-replicate}
use Rattle.std.proofs.lemmas.Bool.{and_from, cases_Bool}
use borrow.Author.Tests.{le-leb, leb-true, eqb-true, eqb-false}
use Rattle.field.specs.Bytes.{Bytes}
use Rattle.catalogue.specs.Page.{Page, Request, A14, house_right, Given, Sound}
use Rattle.catalogue.specs.Catalogue.{most_bytes, size, row_size, present, Holds}
use Rattle.catalogue.specs.Shares.{Shares, total, each, shares_right, used, unused, unused_of_others}
use Rattle.catalogue.specs.Calls.{room, call_right, arrival, without, before, Call, arrives, leaves, called, outcome, number, answer, after_call, after_calls, listed, pages_of, Handed, AllHanded}
use Rattle.catalogue.specs.Words.{remaining, since_empty, Room}
use Rattle.catalogue.proofs.Tests.{and_left, and_right}
use Rattle.catalogue.proofs.Exact.{read_back, empty_holds}
use Rattle.catalogue.proofs.Lists.{size_append, used_append, one_size, Split, split_at_name}
use Rattle.catalogue.proofs.Keeps.{taken, covered, arrival_room, room_met, outcome_held, accepted_kept, refused_kept, was_there, size_less}
use Rattle.catalogue.proofs.Sums.{total_same, total_split, total_but_same, total_grow, each_of, used_own, used_else}

-- the free bytes cover the unused guarantees of all houses
pub Covers : Given → Shares → ℕ → List Page → Type 0
Covers G s n ps = row_size G.format ps + total (unused G.format s ps) 16 ≤ n

covers_none : (G : Given) (s : Shares) (n : ℕ) → shares_right n s ≡ true → Covers G s n []
unfolding Covers row_size shares_right unused used
covers_none G s n e =
    let l : total s.guarantee 16 ≤ n = leb-true (total s.guarantee 16) n (and_right (each (λ h. leb (s.guarantee h) (s.most h)) 16) (leb (total s.guarantee 16) n) e) in
    omega (arith, total_same (unused G.format s []) s.guarantee 16 (λ i. omega arith))

pub unused_is : (G : Given) (s : Shares) (ps : List Page) (h u : ℕ) → used G.format h ps ≡ u → unused G.format s ps h ≡ s.guarantee h - u
unfolding unused
unused_is G s ps h u e = ap (λ (k : ℕ). s.guarantee h - k) e

-- what a page behind the others adds to what its house has used, and to no other house
more_own : (G : Given) (p : Page) (ps : List Page) → used G.format p.house (ps ++ (p ∷ [])) ≡ used G.format p.house ps + size G.format p
more_own G p ps = used_append G p.house ps (p ∷ []) ∙ ap (λ (k : ℕ). used G.format p.house ps + k) (used_own G p)

more_else : (G : Given) (p : Page) (ps : List Page) (h : ℕ) → (h ≡ p.house → ⊥) → used G.format h (ps ++ (p ∷ [])) ≡ used G.format h ps
more_else G p ps h d = used_append G h ps (p ∷ []) ∙ ap (λ (k : ℕ). used G.format h ps + k) (used_else G h p d) ∙ omega arith

covers_more : (G : Given) (s : Shares) (n : ℕ) (p : Page) (ps : List Page) → 1 ≤ p.house → p.house ≤ 16
    → row_size G.format ps + size G.format p + unused_of_others G.format s ps p.house ≤ n → Covers G s n ps → Covers G s n (ps ++ (p ∷ []))
unfolding Covers
covers_more G s n p ps l m c i =
    let h : ℕ = p.house in
    let qs : List Page = ps ++ (p ∷ []) in
    let t : total (unused G.format s qs) 16 ≡ unused_of_others G.format s qs h + unused G.format s qs h = total_split h (unused G.format s qs) 16 l m in
    let u : total (unused G.format s ps) 16 ≡ unused_of_others G.format s ps h + unused G.format s ps h = total_split h (unused G.format s ps) 16 l m in
    let v : unused_of_others G.format s qs h ≡ unused_of_others G.format s ps h = total_but_same h (unused G.format s qs) (unused G.format s ps) 16 else_same in
    let w : unused G.format s qs h ≡ s.guarantee h - (used G.format h ps + size G.format p) = unused_is G s qs h (used G.format h ps + size G.format p) (more_own G p ps) in
    let y : unused G.format s ps h ≡ s.guarantee h - used G.format h ps = unused_is G s ps h (used G.format h ps) refl in
    let x : row_size G.format qs ≡ row_size G.format ps + size G.format p = size_append G ps (p ∷ []) ∙ ap (λ (k : ℕ). row_size G.format ps + k) (one_size G p) in
    small (row_size G.format ps) (size G.format p) (unused_of_others G.format s ps h) (s.guarantee h) (used G.format h ps) n (row_size G.format qs) (total (unused G.format s qs) 16) c
    (subst (λ (k : ℕ). row_size G.format ps + k ≤ n) (u ∙ ap (λ (k : ℕ). unused_of_others G.format s ps h + k) y) i) x (t ∙ ap₂ (λ (j k : ℕ). j + k) v w)
  where
    else_same : (k : ℕ) → (k ≡ p.house → ⊥) → unused G.format s (ps ++ (p ∷ [])) k ≡ unused G.format s ps k
    else_same k d = unused_is G s (ps ++ (p ∷ [])) k (used G.format k ps) (more_else G p ps k d) ∙ sym (unused_is G s ps k (used G.format k ps) refl)

    small : (r z o g u n r' t' : ℕ) → r + z + o ≤ n → r + (o + (g - u)) ≤ n → r' ≡ r + z → t' ≡ o + (g - (u + z)) → r' + t' ≤ n
    small r z o g u n r' t' e f a b = omega arith

-- ---- a page less

used_split : (G : Given) (x h : ℕ) (ps : List Page) (d : Split x ps) → used G.format h ps ≡ used G.format h (without x ps) + used G.format h (d.gone ∷ [])
unfolding used
used_split G x h ps d =
    let e : used G.format h ps ≡ used G.format h (before x ps) + used G.format h (d.gone ∷ d.later) = ap (used G.format h) d.all_is ∙ used_append G h (before x ps) (d.gone ∷ d.later) in
    let f : used G.format h (without x ps) ≡ used G.format h (before x ps) + used G.format h d.later = ap (used G.format h) d.rest_is ∙ used_append G h (before x ps) d.later in
    omega arith

covers_less : (G : Given) (s : Shares) (n x : ℕ) (ps : List Page) (d : Split x ps) → row_size G.format (without x ps) + size G.format d.gone ≡ row_size G.format ps
    → Covers G s n ps → Covers G s n (without x ps)
unfolding Covers
covers_less G s n x ps d e c =
    let h : ℕ = d.gone.house in
    let qs : List Page = without x ps in
    let u : used G.format h ps ≡ used G.format h qs + size G.format d.gone = used_split G x h ps d ∙ ap (λ (k : ℕ). used G.format h qs + k) (used_own G d.gone) in
    let w : unused G.format s qs h ≤ unused G.format s ps h + size G.format d.gone = omega (arith, unused_is G s qs h (used G.format h qs) refl, unused_is G s ps h (used G.format h ps) refl) in
    let t : total (unused G.format s qs) 16 ≤ total (unused G.format s ps) 16 + size G.format d.gone = total_grow h (size G.format d.gone) (unused G.format s qs) (unused G.format s ps) 16 else_same w in
    omega arith
  where
    else_same : (k : ℕ) → (k ≡ d.gone.house → ⊥) → unused G.format s (without x ps) k ≡ unused G.format s ps k
    else_same k n =
        let f : used G.format k ps ≡ used G.format k (without x ps) = used_split G x k ps d ∙ ap (λ (j : ℕ). used G.format k (without x ps) + j) (used_else G k d.gone n) ∙ omega arith in
        unused_is G s (without x ps) k (used G.format k (without x ps)) refl ∙ sym (unused_is G s ps k (used G.format k (without x ps)) f)

-- ---- over histories

-- a catalogue of n bytes that holds some pages, with every guarantee covered
record Safe (G : Given) (s : Shares) (n : ℕ) (b : Bytes) : Type 0 where
  held : List Page
  holds : Holds G.format b held
  covers : Covers G s n held
  long : length b ≡ n

covers_call : (G : Given) (s : Shares) (b : Bytes) (ps : List Page) (c : Call) → G.format.request ≡ A14 → Holds G.format b ps → Covers G s (length b) ps
    → number (called G.format (length b) s c ps) ≡ 0 → Covers G s (length b) (remaining c ps)
unfolding called
covers_call G s b ps (arrives p) a h i e =
    let n : ℕ = length b in
    let t = taken G n s p ps e in
    let r : number (room A14 G.format n s p ps) ≡ 0 = ap (λ (q : Request). number (room q G.format n s p ps)) (sym a) ∙ t.room_is in
    let k : call_right A14 n s p ≡ true = ap (λ (q : Request). call_right q n s p) (sym a) ∙ t.call_is_right in
    let j : (leb 1 p.house && leb p.house 16) ≡ true = and_left (leb 1 p.house && leb p.house 16) (shares_right n s) k in
    covers_more G s n p ps (leb-true 1 p.house (and_left (leb 1 p.house) (leb p.house 16) j)) (leb-true p.house 16 (and_right (leb 1 p.house) (leb p.house 16) j)) (covered G n s p ps r).1 i
covers_call G s b ps (leaves x) a h i e =
    let d = split_at_name x ps (was_there G s b ps h x e).test in
    covers_less G s (length b) x ps d (size_less G s b ps h x d) i

safe_call : (G : Given) (s : Shares) (n : ℕ) (c : Call) (b : Bytes) → G.format.request ≡ A14 → Handed G.format c → Safe G s n b → Safe G s n (after_call G.format s c b)
safe_call G s n c b a k w = on (cases_Bool (eqb (answer G.format s c b) 0))
  where
    ps : List Page
    ps = w.held

    on : (eqb (answer G.format s c b) 0 ≡ true) ⊎ (eqb (answer G.format s c b) 0 ≡ false) → Safe G s n (after_call G.format s c b)
    on (inl t) =
        let e : answer G.format s c b ≡ 0 = eqb-true (answer G.format s c b) 0 t in
        let z = accepted_kept G s b ps w.holds c k e in
        let f : number (called G.format (length b) s c ps) ≡ 0 = ap number (sym (outcome_held G s c b ps w.holds)) ∙ e in
        let v : Covers G s (length b) (remaining c ps) = covers_call G s b ps c a w.holds (subst (λ (m : ℕ). Covers G s m ps) (sym w.long) w.covers) f in
        record { held = remaining c ps; holds = z.holds_them; covers = subst (λ (m : ℕ). Covers G s m (remaining c ps)) w.long v; long = z.length_kept ∙ w.long }
    on (inr t) = subst (Safe G s n) (sym (refused_kept G s c b (eqb-false (answer G.format s c b) 0 t))) w

safe_calls : (G : Given) (s : Shares) (n : ℕ) (cs : List Call) (b : Bytes) → G.format.request ≡ A14 → AllHanded G.format cs → Safe G s n b → Safe G s n (after_calls G.format s cs b)
unfolding after_calls
safe_calls G s n [] b a k w = w
safe_calls G s n (c ∷ cs) b a k w = safe_calls G s n cs (after_call G.format s c b) a k.1 (safe_call G s n c b a k.0 w)

safe_empty : (G : Given) (s : Shares) (n : ℕ) → n ≤ most_bytes → shares_right n s ≡ true → Safe G s n (replicate n 0)
safe_empty G s n l e = record { held = []; holds = empty_holds G n l; covers = covers_none G s n e; long = length-replicate n 0 }

-- ---- taken

guaranteed_arrival : (G : Given) (s : Shares) (n : ℕ) (p : Page) (ps : List Page) → G.format.request ≡ A14 → shares_right n s ≡ true → Sound G.format p → Covers G s n ps
    → present p.name ps ≡ false → used G.format p.house ps + size G.format p ≤ s.guarantee p.house → number (arrival G.format n s p ps) ≡ 0
unfolding number Covers shares_right
guaranteed_arrival G s n p ps a r z c x g =
    let h : ℕ = p.house in
    let j : (leb 1 h && leb h 16) ≡ true = ap (λ (q : Request). house_right q h) (sym a) ∙ z.house_is in
    let l : 1 ≤ h = leb-true 1 h (and_left (leb 1 h) (leb h 16) j) in
    let m : h ≤ 16 = leb-true h 16 (and_right (leb 1 h) (leb h 16) j) in
    let y : each (λ i. leb (s.guarantee i) (s.most i)) 16 ≡ true = and_left (each (λ i. leb (s.guarantee i) (s.most i)) 16) (leb (total s.guarantee 16) n) r in
    let v : s.guarantee h ≤ s.most h = leb-true (s.guarantee h) (s.most h) (each_of (λ i. leb (s.guarantee i) (s.most i)) h 16 y l m) in
    let u : total (unused G.format s ps) 16 ≡ unused_of_others G.format s ps h + unused G.format s ps h = total_split h (unused G.format s ps) 16 l m in
    let w : unused G.format s ps h ≡ s.guarantee h - used G.format h ps = unused_is G s ps h (used G.format h ps) refl in
    let o : row_size G.format ps + size G.format p + unused_of_others G.format s ps h ≤ n = omega arith in
    let k : call_right G.format.request n s p ≡ true = ap (λ (q : Request). call_right q n s p) a ∙ and_from (leb 1 h && leb h 16) (shares_right n s) j r in
    ap number (arrival_room G n s p ps z.judged k x ∙ ap (λ (q : Request). room q G.format n s p ps) a ∙ room_met G n s p ps (omega arith) o)

-- A14: where the shares are right and were the same in all calls since the buffer was all zero, a sound page of a name that is new is taken as
-- long as its house stays within what it is sure of, whatever calls there were
pub guaranteed : (G : Given) (s : Shares) (n : ℕ) (cs : List Call) (p : Page) → G.format.request ≡ A14 → n ≤ most_bytes → shares_right n s ≡ true → AllHanded G.format cs
    → Sound G.format p → present p.name (pages_of G.format (since_empty G.format s n cs)) ≡ false → used G.format p.house (pages_of G.format (since_empty G.format s n cs)) + size G.format p ≤ s.guarantee p.house
    → answer G.format s (arrives p) (since_empty G.format s n cs) ≡ 0
unfolding listed called
guaranteed G s n cs p a l r k z x g =
    let b : Bytes = since_empty G.format s n cs in
    let w : Safe G s n b = safe_calls G s n cs (replicate n 0) a k (safe_empty G s n l r) in
    let ps : List Page = w.held in
    let f : pages_of G.format b ≡ ps = ap listed (read_back G b ps w.holds) in
    let x' : present p.name ps ≡ false = subst (λ (q : List Page). present p.name q ≡ false) f x in
    let g' : used G.format p.house ps + size G.format p ≤ s.guarantee p.house = subst (λ (q : List Page). used G.format p.house q + size G.format p ≤ s.guarantee p.house) f g in
    ap number (outcome_held G s (arrives p) b ps w.holds)
    ∙ guaranteed_arrival G s (length b) p ps a (subst (λ (m : ℕ). shares_right m s ≡ true) (sym w.long) r) z (subst (λ (m : ℕ). Covers G s m ps) (sym w.long) w.covers) x' g'

-- A14: a page that no earlier test refuses is taken exactly where there is room for it
pub taken_exactly : (G : Given) (s : Shares) (b : Bytes) (ps : List Page) (p : Page) → G.format.request ≡ A14 → Holds G.format b ps
    → G.format.judge p.body ≡ 0 → 1 ≤ p.house → p.house ≤ 16 → shares_right (length b) s ≡ true → present p.name ps ≡ false
    → (answer G.format s (arrives p) b ≡ 0) ↔ Room G.format s (length b) ps p
unfolding called number
taken_exactly G s b ps p a h j l m r x = (there, back)
  where
    k : call_right G.format.request (length b) s p ≡ true
    k = ap (λ (q : Request). call_right q (length b) s p) a ∙ and_from (leb 1 p.house && leb p.house 16) (shares_right (length b) s) (and_from (leb 1 p.house) (leb p.house 16) (le-leb 1 p.house l) (le-leb p.house 16 m)) r

    same : outcome G.format s (arrives p) b ≡ room A14 G.format (length b) s p ps
    same = outcome_held G s (arrives p) b ps h ∙ arrival_room G (length b) s p ps j k x ∙ ap (λ (q : Request). room q G.format (length b) s p ps) a

    there : answer G.format s (arrives p) b ≡ 0 → Room G.format s (length b) ps p
    there e =
        let w = covered G (length b) s p ps (ap number (sym same) ∙ e) in
        record { within_most = w.0; fits = omega arith; covers = omega arith }

    back : Room G.format s (length b) ps p → answer G.format s (arrives p) b ≡ 0
    back w = ap number (same ∙ room_met G (length b) s p ps w.within_most (omega arith))
