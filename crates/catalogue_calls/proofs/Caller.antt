-- What a caller knows of a catalogue from the contracts of `add` and `remove` alone. Main statements: `kept_of_answer`, `unkept_of_answer`,
-- `no_catalogue_of_answer`, `no_catalogue_of_leaving`, `no_catalogue_of_arrival`, `shares_of_answer`, `taken_of_answer`, `held_of_history`,
-- `guaranteed_of_answers`, `apart_of_answers`. Assumes nothing.
use Prim.Native.Nat.{ℕ, ◌+◌, ◌≤◌}
use mathlib.Core.Path.{◌≡◌, refl, sym, ap, ◌∙◌, subst}
use mathlib.Core.Bool.{Bool, true, false, ◌&&◌, not}
use mathlib.Core.List.{List, [], ◌∷◌, ◌++◌}
use mathlib.Core.Logic.{◌⊎◌, inl, inr, ◌↔◌}
use native.Mathlib.Omega.{arith}
use lib.Dec.{leb, eqb}
use lib.ListN.{length, replicate, length-replicate}
use Rattle.std.proofs.lemmas.Bool.{and_from, cases_Bool}
use borrow.Author.Tests.{le-leb, eq-eqb, eqb-true, ne_eqb, eqb-false}
use Rattle.field.specs.Bytes.{Bytes, AllBytes, pick}
use Rattle.catalogue.specs.Page.{Page, A14, Sound}
use Rattle.catalogue.specs.Catalogue.{most_bytes, size, row_size, Reading, no_row, pages, read_catalogue, present, Holds}
use Rattle.catalogue.specs.Shares.{Shares, shares_right, used, unused_of_others, others}
use Rattle.catalogue.specs.Calls as C
use Rattle.catalogue.specs.Calls.{Outcome, refused, remain, unless, call_right, arrival, room, without, Call, arrives, leaves, called, judged, outcome, number, left_by, used_after, pages_after, answer, after_call, after_calls, listed, pages_of, Handed, AllHanded}
use Rattle.catalogue.specs.Words.{remaining, Kept, since_empty, Room, OfAnother, Alike}
use Rattle.catalogue.specs.Judged.{judge, project}
use Rattle.catalogue.proofs.Exact as E
use Rattle.catalogue.proofs.Keeps as K
use Rattle.catalogue.proofs.Project as P
use Rattle.catalogue.proofs.Project.{given}
use Rattle.catalogue_calls.specs.Standing.{housed}
use Rattle.catalogue_calls.specs.Answer.{Catalogues, shares_of}
use Rattle.catalogue_calls.specs.Told as T
use Rattle.catalogue_calls.specs.Told.{Answer, Answered, Accepted, Untouched, NoCatalogue, noted, History, Noted, AlikeToOthers}

-- ---- one outcome for both calls

-- a leaving has one outcome, whatever the shares
leaving_alike : (s t : Shares) (x : ℕ) (b : Bytes) → outcome housed s (leaves x) b ≡ outcome housed t (leaves x) b
unfolding outcome judged called
leaving_alike s t x b = on (read_catalogue housed b)
  where
    on : (o : Reading) → judged housed (length b) s (leaves x) o ≡ judged housed (length b) t (leaves x) o
    on no_row = refl
    on (pages ps) = refl

-- so both calls stand under the same shares
answered : (ns : List ℕ) (c : Call) (b : Bytes) (a : Answer) (b' : Bytes) → Answered ns c b a b' → Catalogues (outcome housed (shares_of ns) c b) b a.number a.used a.pages b'
answered ns (arrives p) b a b' w = w
answered ns (leaves x) b a b' w =
    subst (λ (o : Outcome). Catalogues o b a.number a.used a.pages b') (leaving_alike (record { guarantee = λ h. 0; most = λ h. 0 }) (shares_of ns) x b) w

-- ---- accepted

-- what holds no pages is refused with 4
read_of : (n : ℕ) (s : Shares) (c : Call) (o : Reading) → number (judged housed n s c o) ≡ 0 → (ps : List Page) × (o ≡ pages ps)
unfolding judged number
read_of n s c no_row e = absurd (omega arith)
read_of n s c (pages ps) e = (ps, refl)

remains : (s : Shares) (b : Bytes) (ps : List Page) (c : Call) → Holds housed b ps → number (called housed (length b) s c ps) ≡ 0 → called housed (length b) s c ps ≡ remain (remaining c ps)
unfolding project called C.leaving
remains s b ps (arrives p) h e =
    let t = K.taken (given A14) (length b) s p ps e in
    let w = K.covered (given A14) (length b) s p ps t.room_is in
    t.is ∙ K.room_met (given A14) (length b) s p ps w.0 w.1
remains s b ps (leaves x) h e = (K.was_there (given A14) s b ps h x e).is

module _ (ns : List ℕ) (c : Call) (b : Bytes) (a : Answer) (b' : Bytes) (w : Answered ns c b a b') where
  told : Catalogues (outcome housed (shares_of ns) c b) b a.number a.used a.pages b'
  told = answered ns c b a b' w

  -- A13: what a call leaves that answers 0
  pub kept_of_answer : AllBytes b → Handed housed c → a.number ≡ 0 → Accepted c b a b'
  unfolding project outcome used_after pages_after
  kept_of_answer l k e =
      let s : Shares = shares_of ns in
      let z : number (outcome housed s c b) ≡ 0 = sym told.number_is ∙ e in
      let r = read_of (length b) s c (read_catalogue housed b) z in
      let ps : List Page = r.0 in
      let h : Holds housed b ps = (P.read_exactly A14 b ps l).0 r.1 in
      let o : outcome housed s c b ≡ called housed (length b) s c ps = K.outcome_held (given A14) s c b ps h in
      let q : outcome housed s c b ≡ remain (remaining c ps) = o ∙ remains s b ps c h (ap number (sym o) ∙ z) in
      record {
        before = ps;
        held = h;
        held_alone = λ qs i. P.one_list A14 b qs ps i h;
        kept = subst (Kept housed c b ps) (sym told.bytes_are) (P.accepted_kept A14 s b ps h c k z);
        used_is = told.used_is ∙ ap (used_after housed) q;
        pages_is = told.pages_is ∙ ap pages_after q;
      }

  -- A13: what a call leaves that answers any other number
  pub unkept_of_answer : (a.number ≡ 0 → ⊥) → Untouched b a b'
  unfolding number left_by used_after pages_after
  unkept_of_answer f = on (outcome housed (shares_of ns) c b) told (λ e. f (told.number_is ∙ e))
    where
      on : (o : Outcome) → Catalogues o b a.number a.used a.pages b' → (number o ≡ 0 → ⊥) → Untouched b a b'
      on (refused n) v d = record { as_found = v.bytes_are; used_is = v.used_is; pages_is = v.pages_is }
      on (remain ps) v d = absurd (d refl)

-- ---- no catalogue

-- A13: to every call, 4
pub no_catalogue_of_answer : (ns : List ℕ) (c : Call) (b : Bytes) (a : Answer) (b' : Bytes) → Answered ns c b a b' → AllBytes b → NoCatalogue b → a.number ≡ 4
unfolding outcome judged number
no_catalogue_of_answer ns c b a b' w l n =
    (answered ns c b a b' w).number_is ∙ ap (λ (o : Reading). number (judged housed (length b) (shares_of ns) c o)) ((P.unread_exactly A14 b l).1 n)

-- a buffer holds some pages, or none
held_or_none : (b : Bytes) → AllBytes b → ((ps : List Page) × Holds housed b ps) ⊎ NoCatalogue b
held_or_none b l = on (read_catalogue housed b) refl
  where
    on : (o : Reading) → read_catalogue housed b ≡ o → ((ps : List Page) × Holds housed b ps) ⊎ NoCatalogue b
    on no_row e = inr ((P.unread_exactly A14 b l).0 e)
    on (pages ps) e = inl (ps, (P.read_exactly A14 b ps l).0 e)

-- what a call answers where pages are held
called_of_answer : (ns : List ℕ) (c : Call) (b : Bytes) (a : Answer) (b' : Bytes) → Answered ns c b a b' → (ps : List Page) → Holds housed b ps
    → a.number ≡ number (called housed (length b) (shares_of ns) c ps)
unfolding project
called_of_answer ns c b a b' w ps h = (answered ns c b a b' w).number_is ∙ ap number (K.outcome_held (given A14) (shares_of ns) c b ps h)

not_four : (x : ℕ) (ps : List Page) → number (C.leaving x ps) ≡ 4 → ⊥
unfolding number C.leaving unless
not_four x ps e = on (present x ps) e
  where
    on : (t : Bool) → number (unless t 22 (remain (without x ps))) ≡ 4 → ⊥
    on true f = absurd (omega arith)
    on false f = absurd (omega arith)

-- a number that no test of these has is not the answer
past : (k : ℕ) (t : Bool) (n : ℕ) (o : Outcome) → (n ≡ k → ⊥) → (number o ≡ k → ⊥) → number (unless t n o) ≡ k → ⊥
unfolding number unless
past k true n o f g e = g e
past k false n o f g e = f e

module _ (n : ℕ) (s : Shares) (p : Page) (ps : List Page) where
  -- the tests behind the shares, and then these, and the page before all
  behind_shares : Outcome
  behind_shares = unless (not (present p.name ps)) 21 (room A14 housed n s p ps)

  behind_page : Outcome
  behind_page = unless (call_right A14 n s p) 26 behind_shares

  not_behind_shares : (k : ℕ) → (0 ≡ k → ⊥) → (21 ≡ k → ⊥) → (24 ≡ k → ⊥) → (25 ≡ k → ⊥) → number behind_shares ≡ k → ⊥
  unfolding behind_shares room number
  not_behind_shares k a b c d =
      let z : ℕ = row_size housed ps + size housed p + unused_of_others housed s ps p.house in
      let o : Outcome = unless (leb z n) 25 (remain (ps ++ (p ∷ []))) in
      past k (not (present p.name ps)) 21 (room A14 housed n s p ps) b (past k (leb (used housed p.house ps + size housed p) (s.most p.house)) 24 o c (past k (leb z n) 25 (remain (ps ++ (p ∷ []))) d a))

  page_refused : (judge p.body ≡ 0 → ⊥) → number (arrival housed n s p ps) ≡ judge p.body
  unfolding project arrival number unless behind_page behind_shares
  page_refused f = ap (λ (q : Bool). number (unless q (judge p.body) behind_page)) (ne_eqb (judge p.body) 0 f)

  page_passes : judge p.body ≡ 0 → number (arrival housed n s p ps) ≡ number behind_page
  unfolding project arrival unless behind_page behind_shares
  page_passes e = ap (λ (q : Bool). number (unless q (judge p.body) behind_page)) (eq-eqb (judge p.body) 0 e)

  four_judged : number (arrival housed n s p ps) ≡ 4 → judge p.body ≡ 4
  unfolding behind_page
  four_judged e = on (cases_Bool (eqb (judge p.body) 0))
    where
      on : (eqb (judge p.body) 0 ≡ true) ⊎ (eqb (judge p.body) 0 ≡ false) → judge p.body ≡ 4
      on (inl t) =
          absurd (past 4 (call_right A14 n s p) 26 behind_shares (λ f. omega arith) (not_behind_shares 4 (λ f. omega arith) (λ f. omega arith) (λ f. omega arith) (λ f. omega arith))
          (sym (page_passes (eqb-true (judge p.body) 0 t)) ∙ e))
      on (inr t) = sym (page_refused (eqb-false (judge p.body) 0 t)) ∙ e

  -- of a page that is sound
  shares_refused : judge p.body ≡ 0 → 1 ≤ p.house → p.house ≤ 16 → (number (arrival housed n s p ps) ≡ 26) ↔ (shares_right n s ≡ false)
  unfolding behind_page number unless
  shares_refused j l m = (there (cases_Bool (shares_right n s)), λ e. page_passes j ∙ call_is false e)
    where
      call_is : (t : Bool) → shares_right n s ≡ t → number behind_page ≡ number (unless t 26 behind_shares)
      call_is t e = ap (λ (q : Bool). number (unless (q && shares_right n s) 26 behind_shares)) (and_from (leb 1 p.house) (leb p.house 16) (le-leb 1 p.house l) (le-leb p.house 16 m)) ∙ ap (λ (q : Bool). number (unless q 26 behind_shares)) e

      there : (shares_right n s ≡ true) ⊎ (shares_right n s ≡ false) → number (arrival housed n s p ps) ≡ 26 → shares_right n s ≡ false
      there (inl t) e =
          absurd (not_behind_shares 26 (λ f. omega arith) (λ f. omega arith) (λ f. omega arith) (λ f. omega arith) (sym (page_passes j ∙ call_is true t) ∙ e))
      there (inr t) e = t

-- A13: a leaving answers 4 exactly where there is no catalogue
pub no_catalogue_of_leaving : (ns : List ℕ) (x : ℕ) (b : Bytes) (a : Answer) (b' : Bytes) → Answered ns (leaves x) b a b' → AllBytes b → (a.number ≡ 4) ↔ NoCatalogue b
unfolding called
no_catalogue_of_leaving ns x b a b' w l = (there, no_catalogue_of_answer ns (leaves x) b a b' w l)
  where
    there : a.number ≡ 4 → NoCatalogue b
    there e ps h = not_four x ps (sym (called_of_answer ns (leaves x) b a b' w ps h) ∙ e)

-- A13: an arrival answers 4 exactly there, and where the page itself has a 4
pub no_catalogue_of_arrival : (ns : List ℕ) (p : Page) (b : Bytes) (a : Answer) (b' : Bytes) → Answered ns (arrives p) b a b' → AllBytes b
    → (a.number ≡ 4) ↔ (NoCatalogue b ⊎ (judge p.body ≡ 4))
unfolding project called
no_catalogue_of_arrival ns p b a b' w l = (there (held_or_none b l), back (held_or_none b l))
  where
    there : ((ps : List Page) × Holds housed b ps) ⊎ NoCatalogue b → a.number ≡ 4 → NoCatalogue b ⊎ (judge p.body ≡ 4)
    there (inl d) e = inr (four_judged (length b) (shares_of ns) p d.0 (sym (called_of_answer ns (arrives p) b a b' w d.0 d.1) ∙ e))
    there (inr n) e = inl n

    back : ((ps : List Page) × Holds housed b ps) ⊎ NoCatalogue b → NoCatalogue b ⊎ (judge p.body ≡ 4) → a.number ≡ 4
    back k (inl n) = no_catalogue_of_answer ns (arrives p) b a b' w l n
    back (inl d) (inr j) = called_of_answer ns (arrives p) b a b' w d.0 d.1 ∙ page_refused (length b) (shares_of ns) p d.0 (λ e. absurd (omega arith)) ∙ j
    back (inr n) (inr j) = no_catalogue_of_answer ns (arrives p) b a b' w l n

-- ---- A14

-- A14: a page that is sound is refused for its shares exactly where these are not right
pub shares_of_answer : (ns : List ℕ) (p : Page) (b : Bytes) (a : Answer) (b' : Bytes) → Answered ns (arrives p) b a b' → (ps : List Page) → Holds housed b ps
    → judge p.body ≡ 0 → 1 ≤ p.house → p.house ≤ 16 → (a.number ≡ 26) ↔ (shares_right (length b) (shares_of ns) ≡ false)
unfolding called
shares_of_answer ns p b a b' w ps h j l m =
    let t = shares_refused (length b) (shares_of ns) p ps j l m in
    let e = called_of_answer ns (arrives p) b a b' w ps h in
    (λ f. t.0 (sym e ∙ f), λ f. e ∙ t.1 f)

-- A14: a page that no earlier test refuses is taken exactly where there is room for it
pub taken_of_answer : (ns : List ℕ) (p : Page) (b : Bytes) (a : Answer) (b' : Bytes) → Answered ns (arrives p) b a b' → (ps : List Page) → Holds housed b ps
    → judge p.body ≡ 0 → 1 ≤ p.house → p.house ≤ 16 → shares_right (length b) (shares_of ns) ≡ true → present p.name ps ≡ false
    → (a.number ≡ 0) ↔ Room housed (shares_of ns) (length b) ps p
taken_of_answer ns p b a b' w ps h j l m r x =
    let t = P.taken_exactly (shares_of ns) b ps p h j l m r x in
    (λ e. t.0 (sym w.number_is ∙ e), λ k. w.number_is ∙ t.1 k)

-- ---- histories

after_one_more : (s : Shares) (cs : List Call) (c : Call) (b : Bytes) → after_calls housed s (cs ++ (c ∷ [])) b ≡ after_call housed s c (after_calls housed s cs b)
unfolding after_calls
after_one_more s [] c b = refl
after_one_more s (d ∷ cs) c b = after_one_more s cs c (after_call housed s d b)

handed_one_more : (cs : List Call) (c : Call) → AllHanded housed cs → Handed housed c → AllHanded housed (cs ++ (c ∷ []))
handed_one_more [] c l k = (k, tt)
handed_one_more (d ∷ cs) c l k = (l.0, handed_one_more cs c l.1 k)

-- the calls of a history
record Calls (ns : List ℕ) (n : ℕ) (b : Bytes) : Type 0 where
  calls : List Call
  handed : AllHanded housed calls
  bytes_are : b ≡ since_empty housed (shares_of ns) n calls

calls_of : (ns : List ℕ) (n : ℕ) (ps : List Page) (b : Bytes) → History ns n ps b → Calls ns n b
unfolding after_calls
calls_of ns n _ _ T.empty = record { calls = []; handed = tt; bytes_are = refl }
calls_of ns n _ _ (T.then ps b c a b' h k w) =
    let d = calls_of ns n ps b h in
    let s : Shares = shares_of ns in
    record {
      calls = d.calls ++ (c ∷ []);
      handed = handed_one_more d.calls c d.handed k;
      bytes_are = (answered ns c b a b' w).bytes_are ∙ ap (after_call housed s c) d.bytes_are ∙ sym (after_one_more s d.calls c (replicate n 0));
    }

noted_call : (ns : List ℕ) (n : ℕ) (ps : List Page) (b : Bytes) (c : Call) (a : Answer) (b' : Bytes) → Noted n ps b → Handed housed c → Answered ns c b a b' → Noted n (noted c a ps) b'
noted_call ns n ps b c a b' i k w = on (cases_Bool (eqb a.number 0))
  where
    g : Catalogues (outcome housed (shares_of ns) c b) b a.number a.used a.pages b'
    g = answered ns c b a b' w

    on : (eqb a.number 0 ≡ true) ⊎ (eqb a.number 0 ≡ false) → Noted n (noted c a ps) b'
    on (inl t) =
        let z = P.accepted_kept A14 (shares_of ns) b ps i.0 c k (sym g.number_is ∙ eqb-true a.number 0 t) in
        let y : Kept housed c b ps b' = subst (Kept housed c b ps) (sym g.bytes_are) z in
        subst (λ (q : List Page). Noted n q b') (ap (λ (q : Bool). pick q (remaining c ps) ps) (sym t)) (y.holds_them, y.length_kept ∙ i.1)
    on (inr t) =
        let u = unkept_of_answer ns c b a b' w (eqb-false a.number 0 t) in
        subst (λ (q : List Page). Noted n q b') (ap (λ (q : Bool). pick q (remaining c ps) ps) (sym t)) (subst (Noted n ps) (sym u.as_found) i)

-- what a caller notes of the answers is what the buffer holds
pub held_of_history : (ns : List ℕ) (n : ℕ) (ps : List Page) (b : Bytes) → n ≤ most_bytes → History ns n ps b → Noted n ps b
unfolding project
held_of_history ns n _ _ l T.empty = (E.empty_holds (given A14) n l, length-replicate n 0)
held_of_history ns n _ _ l (T.then ps b c a b' h k w) = noted_call ns n ps b c a b' (held_of_history ns n ps b l h) k w

-- A14: with shares that are not refused, and the same since the catalogue was empty, a sound page with a new name whose house stays within its
-- guarantee is taken, however others came and went
pub guaranteed_of_answers : (ns : List ℕ) (n : ℕ) (ps : List Page) (b : Bytes) (p : Page) (a : Answer) (b' : Bytes) → n ≤ most_bytes → shares_right n (shares_of ns) ≡ true → History ns n ps b
    → Sound housed p → present p.name ps ≡ false → used housed p.house ps + size housed p ≤ (shares_of ns).guarantee p.house → Answered ns (arrives p) b a b' → a.number ≡ 0
unfolding project listed
guaranteed_of_answers ns n ps b p a b' l r h z x g w =
    let s : Shares = shares_of ns in
    let d = calls_of ns n ps b h in
    let e : Bytes = since_empty housed s n d.calls in
    let f : ps ≡ pages_of housed e = sym (ap listed (E.read_back (given A14) b ps (held_of_history ns n ps b l h).0)) ∙ ap (pages_of housed) d.bytes_are in
    w.number_is ∙ ap (answer housed s (arrives p)) d.bytes_are
    ∙ P.guaranteed s n d.calls p l r d.handed z (subst (λ (q : List Page). present p.name q ≡ false) f x)
    (subst (λ (q : List Page). used housed p.house q + size housed p ≤ s.guarantee p.house) f g)

-- ---- two catalogues

held_after : (ns : List ℕ) (c : Call) (b : Bytes) (a : Answer) (b' : Bytes) → Answered ns c b a b' → Handed housed c → (ps : List Page) → Holds housed b ps → (qs : List Page) × Holds housed b' qs
held_after ns c b a b' w k ps h =
    (noted c a ps, (noted_call ns (length b) ps b c a b' (h, refl) k w).0)

-- A14: of two catalogues that only the pages of one house tell apart, a call of another house answers one number, and leaves the others' pages alike
pub apart_of_answers : (ns : List ℕ) (g : ℕ) (c : Call) (b₁ : Bytes) (ps₁ : List Page) (b₂ : Bytes) (ps₂ : List Page) (a₁ a₂ : Answer) (b₁' b₂' : Bytes)
    → 1 ≤ g → g ≤ 16 → Handed housed c → OfAnother g c → Alike housed (shares_of ns) g c b₁ ps₁ b₂ ps₂ → Answered ns c b₁ a₁ b₁' → Answered ns c b₂ a₂ b₂'
    → (a₁.number ≡ a₂.number) × AlikeToOthers g b₁' b₂'
unfolding project listed
apart_of_answers ns g c b₁ ps₁ b₂ ps₂ a₁ a₂ b₁' b₂' l m k d w v₁ v₂ =
    let s : Shares = shares_of ns in
    let t₁ = answered ns c b₁ a₁ b₁' v₁ in
    let t₂ = answered ns c b₂ a₂ b₂' v₂ in
    let h₁ = held_after ns c b₁ a₁ b₁' v₁ k ps₁ w.sound₁ in
    let h₂ = held_after ns c b₂ a₂ b₂' v₂ k ps₂ w.sound₂ in
    let q₁ : pages_of housed (after_call housed s c b₁) ≡ h₁.0 = ap (pages_of housed) (sym t₁.bytes_are) ∙ ap listed (E.read_back (given A14) b₁' h₁.0 h₁.1) in
    let q₂ : pages_of housed (after_call housed s c b₂) ≡ h₂.0 = ap (pages_of housed) (sym t₂.bytes_are) ∙ ap listed (E.read_back (given A14) b₂' h₂.0 h₂.1) in (
      t₁.number_is ∙ P.apart_number s g c b₁ ps₁ b₂ ps₂ l m k d w ∙ sym t₂.number_is,
      record {
        pages₁ = h₁.0;
        pages₂ = h₂.0;
        held₁ = h₁.1;
        held₂ = h₂.1;
        alike = ap (others g) (sym q₁) ∙ P.apart_pages s g c b₁ ps₁ b₂ ps₂ l m k d w ∙ ap (others g) q₂;
      },
    )
