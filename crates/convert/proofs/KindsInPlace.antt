-- 02, A7: the kinds that the strings of an accepted page's template give are those of its places. Main statements: `kinds_of_accepted`,
-- `kinds_by_places`. Assumes nothing.
use mathlib.Core.Path.{◌≡◌, refl, sym, ap, ap₂, ◌∙◌, subst}
use mathlib.Core.Bool.{Bool, true, false}
use mathlib.Core.Option.{Option, none, some}
use Prim.Native.Nat.{ℕ}
use native.Mathlib.Omega.{arith}
use mathlib.Core.List.{List, [], ◌∷◌, ◌++◌}
use lib.Dec.{T, eqb}
use borrow.Author.Tests.{eqb-true}
use Rattle.field.specs.Bytes.{Bytes, AllBytes, pick, same, among}
use Rattle.field.specs.Row.{Row, end, loose, field, read}
use Rattle.names.specs.Names.{is_void_element, void_names}
use Rattle.spec.specs.Answer.{Written, accepted, outcome}
use Rattle.spec.specs.Words.{Reading, outside, inside_tag, ill, Comparison, by_bytes, compared, to_space, close_tag, open_tag, end_tag, read_byte, read_markup, WellNestedBy, inside_opening_tag, places_after, places, filled, Fits, AllFit, free}
use Rattle.spec.specs.Demand.{strings_in, Each84, SoundTemplate, Demand3Bytes}
use Rattle.spec.proofs.Good.{ends_spaced, Spaced}
use Rattle.spec.proofs.Markup.{read_append, read_nested, read_ill}
use Rattle.spec.proofs.Place.{Spot, out_of_tags, behind_less, in_opening, in_closing, spot_of_tag, next_spot, spot_after, inside, spot_append, spot_inside}
use Rattle.spec.proofs.Lent.{demand3}
use Rattle.spec.proofs.Spaced.{SpacedGaps, gaps_spaced}
use Rattle.convert.specs.Kinds.{passed, all_passed, kind_there, kinds_from, kinds_by_strings}
use Rattle.convert.specs.Kinds as K
use Rattle.convert.specs.declared.kinds.Markup.{Markup}
use Rattle.convert.specs.declared.kinds.Markup.TheVariants as M

-- ---- what `<` and `>` in turn say beside a reading and a place, behind the same bytes

-- as long as a reading is not ill, it is outside tags exactly where the signs are in turn and no tag is left open
abbrev Reads : Markup → Reading → Type 0
Reads M.Outside (outside ns) = Unit {0}
Reads M.Outside (inside_tag ns b) = ⊥
Reads M.Outside ill = Unit {0}
Reads M.Entered (outside ns) = ⊥
Reads M.Entered (inside_tag ns b) = Unit {0}
Reads M.Entered ill = Unit {0}
Reads M.Opening (outside ns) = ⊥
Reads M.Opening (inside_tag ns b) = Unit {0}
Reads M.Opening ill = Unit {0}
Reads M.Spaced (outside ns) = ⊥
Reads M.Spaced (inside_tag ns b) = Unit {0}
Reads M.Spaced ill = Unit {0}
Reads M.Closing (outside ns) = ⊥
Reads M.Closing (inside_tag ns b) = Unit {0}
Reads M.Closing ill = Unit {0}
Reads M.Crossed (outside ns) = ⊥
Reads M.Crossed (inside_tag ns b) = ⊥
Reads M.Crossed ill = Unit {0}

-- an opening tag is left open exactly where the place says so
abbrev Lies : Markup → Spot → Type 0
Lies M.Outside z = z ≡ out_of_tags
Lies M.Entered z = z ≡ behind_less
Lies M.Opening z = z ≡ in_opening
Lies M.Spaced z = z ≡ in_opening
Lies M.Closing z = z ≡ in_closing
Lies M.Crossed z = Unit {0}

-- where a space comes last, no opening tag is left open without one
abbrev Ends : Markup → Bool → Type 0
Ends M.Outside z = Unit {0}
Ends M.Entered z = T z → ⊥
Ends M.Opening z = T z → ⊥
Ends M.Spaced z = Unit {0}
Ends M.Closing z = Unit {0}
Ends M.Crossed z = Unit {0}

-- ---- byte by byte

reads_ill : (m : Markup) → Reads m ill
reads_ill M.Outside = tt
reads_ill M.Entered = tt
reads_ill M.Opening = tt
reads_ill M.Spaced = tt
reads_ill M.Closing = tt
reads_ill M.Crossed = tt

reads_open : (ns : List Bytes) (n : Bytes) → Reads M.Outside (open_tag ns n)
unfolding open_tag
reads_open ns n = on (is_void_element n)
  where
    on : (b : Bool) → Reads M.Outside (pick b (outside ns) (outside (n ∷ ns)))
    on true = tt
    on false = tt

reads_close : (ns : List Bytes) (n : Bytes) → Reads M.Outside (close_tag ns n)
unfolding close_tag
reads_close [] n = tt
reads_close (m ∷ ns) n = on (same m n)
  where
    on : (b : Bool) → Reads M.Outside (pick b (outside ns) ill)
    on true = tt
    on false = tt

reads_end : (how : Comparison) (ns : List Bytes) (b : Bytes) → Reads M.Outside (end_tag how ns b)
unfolding end_tag
reads_end how ns [] = reads_open ns []
reads_end how ns (c ∷ cs) = on (eqb c 47)
  where
    on : (b : Bool) → Reads M.Outside (pick b (close_tag ns (compared how (to_space cs))) (open_tag ns (compared how (to_space (c ∷ cs)))))
    on true = reads_close ns (compared how (to_space cs))
    on false = reads_open ns (compared how (to_space (c ∷ cs)))

module _ (how : Comparison) where
  -- behind a byte of an opening tag, and of a closing one
  reads_opened : (ns : List Bytes) (b : Bytes) (c : ℕ) → Reads (K.in_opening c) (read_byte how (inside_tag ns b) c)
  unfolding read_byte
  reads_opened ns b c = on (eqb c 60) (eqb c 62) (eqb c 32)
    where
      on : (less greater space : Bool) → Reads (pick less M.Crossed (pick greater M.Outside (pick space M.Spaced M.Opening))) (pick less ill (pick greater (end_tag how ns b) (inside_tag ns (b ++ (c ∷ [])))))
      on true greater space = tt
      on false true space = reads_end how ns b
      on false false true = tt
      on false false false = tt

  reads_entered : (ns : List Bytes) (b : Bytes) (c : ℕ) (slash : Bool) → eqb c 47 ≡ slash → Reads (pick slash M.Closing (K.in_opening c)) (read_byte how (inside_tag ns b) c)
  unfolding read_byte
  reads_entered ns b c true q = subst (λ (x : ℕ). Reads M.Closing (read_byte how (inside_tag ns b) x)) (sym (eqb-true c 47 q)) tt
  reads_entered ns b c false q = reads_opened ns b c

  reads_on : (m : Markup) (k : Reading) (c : ℕ) → Reads m k → Reads (passed m c) (read_byte how k c)
  unfolding passed read_byte
  reads_on m ill c r = reads_ill (passed m c)
  reads_on M.Outside (outside ns) c r = on (eqb c 60) (eqb c 62)
    where
      on : (less greater : Bool) → Reads (pick less M.Entered (pick greater M.Crossed M.Outside)) (pick less (inside_tag ns []) (pick greater ill (outside ns)))
      on true greater = tt
      on false true = tt
      on false false = tt
  reads_on M.Outside (inside_tag ns b) c r = absurd r
  reads_on M.Entered (outside ns) c r = absurd r
  reads_on M.Entered (inside_tag ns b) c r = reads_entered ns b c (eqb c 47) refl
  reads_on M.Opening (outside ns) c r = absurd r
  reads_on M.Opening (inside_tag ns b) c r = reads_opened ns b c
  reads_on M.Spaced (outside ns) c r = absurd r
  reads_on M.Spaced (inside_tag ns b) c r = reads_opened ns b c
  reads_on M.Closing (outside ns) c r = absurd r
  reads_on M.Closing (inside_tag ns b) c r = on (eqb c 60) (eqb c 62)
    where
      on : (less greater : Bool) → Reads (pick less M.Crossed (pick greater M.Outside M.Closing)) (pick less ill (pick greater (end_tag how ns b) (inside_tag ns (b ++ (c ∷ [])))))
      on true greater = tt
      on false true = reads_end how ns b
      on false false = tt
  reads_on M.Crossed (outside ns) c r = absurd r
  reads_on M.Crossed (inside_tag ns b) c r = absurd r

  reads_all : (s : Bytes) (m : Markup) (k : Reading) → Reads m k → Reads (all_passed m s) (read_markup how k s)
  unfolding all_passed read_markup
  reads_all [] m k r = r
  reads_all (c ∷ s) m k r = reads_all s (passed m c) (read_byte how k c) (reads_on m k c r)

lies_opened : (z : Spot) (c : ℕ) → spot_of_tag z (eqb c 47) ≡ in_opening → Lies (K.in_opening c) (next_spot z c)
lies_opened z c h = on (eqb c 60) (eqb c 62) (eqb c 32)
  where
    on : (less greater space : Bool) → Lies (pick less M.Crossed (pick greater M.Outside (pick space M.Spaced M.Opening))) (pick less behind_less (pick greater out_of_tags (spot_of_tag z (eqb c 47))))
    on true greater space = tt
    on false true space = refl
    on false false true = h
    on false false false = h

lies_entered : (c : ℕ) (slash : Bool) → eqb c 47 ≡ slash → Lies (pick slash M.Closing (K.in_opening c)) (next_spot behind_less c)
lies_entered c true q = subst (λ (x : ℕ). Lies M.Closing (next_spot behind_less x)) (sym (eqb-true c 47 q)) refl
lies_entered c false q = lies_opened behind_less c (ap (spot_of_tag behind_less) q)

lies_on : (m : Markup) (z : Spot) (c : ℕ) → Lies m z → Lies (passed m c) (next_spot z c)
unfolding passed
lies_on M.Outside z c l = subst (λ (y : Spot). Lies (passed M.Outside c) (next_spot y c)) (sym l) (on (eqb c 60) (eqb c 62))
  where
    on : (less greater : Bool) → Lies (pick less M.Entered (pick greater M.Crossed M.Outside)) (pick less behind_less (pick greater out_of_tags out_of_tags))
    on true greater = refl
    on false true = tt
    on false false = refl
lies_on M.Entered z c l = subst (λ (y : Spot). Lies (passed M.Entered c) (next_spot y c)) (sym l) (lies_entered c (eqb c 47) refl)
lies_on M.Opening z c l = subst (λ (y : Spot). Lies (passed M.Opening c) (next_spot y c)) (sym l) (lies_opened in_opening c refl)
lies_on M.Spaced z c l = subst (λ (y : Spot). Lies (passed M.Spaced c) (next_spot y c)) (sym l) (lies_opened in_opening c refl)
lies_on M.Closing z c l = subst (λ (y : Spot). Lies (passed M.Closing c) (next_spot y c)) (sym l) (on (eqb c 60) (eqb c 62))
  where
    on : (less greater : Bool) → Lies (pick less M.Crossed (pick greater M.Outside M.Closing)) (pick less behind_less (pick greater out_of_tags in_closing))
    on true greater = tt
    on false true = refl
    on false false = refl
lies_on M.Crossed z c l = tt

lies_all : (s : Bytes) (m : Markup) (z : Spot) → Lies m z → Lies (all_passed m s) (spot_after z s)
unfolding all_passed
lies_all [] m z l = l
lies_all (c ∷ s) m z l = lies_all s (passed m c) (next_spot z c) (lies_on m z c l)

ends_opened : (c : ℕ) → Ends (K.in_opening c) (eqb c 32)
ends_opened c = on (eqb c 60) (eqb c 62) (eqb c 32)
  where
    on : (less greater space : Bool) → Ends (pick less M.Crossed (pick greater M.Outside (pick space M.Spaced M.Opening))) space
    on true greater space = tt
    on false true space = tt
    on false false true = tt
    on false false false = λ h. h

ends_less : (c : ℕ) (less : Bool) → eqb c 60 ≡ less → Ends (pick less M.Entered (pick (eqb c 62) M.Crossed M.Outside)) (eqb c 32)
ends_less c true q = subst (λ (x : ℕ). T (eqb x 32) → ⊥) (sym (eqb-true c 60 q)) λ h. h
ends_less c false q = on (eqb c 62)
  where
    on : (greater : Bool) → Ends (pick greater M.Crossed M.Outside) (eqb c 32)
    on true = tt
    on false = tt

ends_on : (m : Markup) (c : ℕ) → Ends (passed m c) (eqb c 32)
unfolding passed
ends_on M.Outside c = ends_less c (eqb c 60) refl
ends_on M.Entered c = on (eqb c 47)
  where
    on : (slash : Bool) → Ends (pick slash M.Closing (K.in_opening c)) (eqb c 32)
    on true = tt
    on false = ends_opened c
ends_on M.Opening c = ends_opened c
ends_on M.Spaced c = ends_opened c
ends_on M.Closing c = on (eqb c 60) (eqb c 62)
  where
    on : (less greater : Bool) → Ends (pick less M.Crossed (pick greater M.Outside M.Closing)) (eqb c 32)
    on true greater = tt
    on false true = tt
    on false false = tt
ends_on M.Crossed c = tt

ends_all : (s : Bytes) (m : Markup) (z : Bool) → Ends m z → Ends (all_passed m s) (ends_spaced z s)
unfolding all_passed ends_spaced
ends_all [] m z e = e
ends_all (c ∷ s) m z e = ends_all s (passed m c) (eqb c 32) (ends_on m c)

-- ---- one filling: nothing inside opening tags, a tag elsewhere

tags : Bytes
tags = 60 ∷ 97 ∷ 62 ∷ 60 ∷ 47 ∷ 97 ∷ 62 ∷ []

abbrev filler : Bool → Bytes
filler true = []
filler false = tags

abbrev fillers : List Bool → List Bytes
fillers [] = []
fillers (k ∷ ks) = filler k ∷ fillers ks

tags_nested : WellNestedBy by_bytes tags
unfolding tags WellNestedBy read_markup read_byte end_tag open_tag close_tag compared to_space is_void_element void_names same among
tags_nested = refl

fillers_fit : (ks : List Bool) → AllFit by_bytes ks (fillers ks)
unfolding AllFit Fits free
fillers_fit [] = tt
fillers_fit (true ∷ ks) = (tt, fillers_fit ks)
fillers_fit (false ∷ ks) = (tags_nested, fillers_fit ks)

never_ill : (w : Bytes) → read_markup by_bytes ill w ≡ outside [] → ⊥
never_ill w h = let e : ill ≡ outside [] = sym (read_ill by_bytes w) ∙ h in let z : ◌≡◌ {A = ℕ} 0 1 = cc in omega arith

-- a tag may stand only where none is open
child_gap : (m : Markup) (k : Reading) (w : Bytes) → Reads m k → read_markup by_bytes k (tags ++ w) ≡ outside [] → (m ≡ M.Outside) × (read_markup by_bytes k w ≡ outside [])
child_gap m (outside ns) w r h = (is_outside m r, ap (λ (k : Reading). read_markup by_bytes k w) (sym (read_nested by_bytes ns tags tags_nested)) ∙ sym (read_append by_bytes (outside ns) tags w) ∙ h)
  where
    is_outside : (m : Markup) → Reads m (outside ns) → m ≡ M.Outside
    is_outside M.Outside r = refl
    is_outside M.Entered r = absurd r
    is_outside M.Opening r = absurd r
    is_outside M.Spaced r = absurd r
    is_outside M.Closing r = absurd r
    is_outside M.Crossed r = absurd r
child_gap m (inside_tag ns b) w r h = absurd (never_ill (97 ∷ 62 ∷ 60 ∷ 47 ∷ 97 ∷ 62 ∷ w) (unfold tags read_markup read_byte in h))
child_gap m ill w r h = absurd (never_ill (tags ++ w) h)

attribute_gap : (m : Markup) (k : Reading) (z : Spot) (b : Bool) (w : Bytes) → Reads m k → Lies m z → Ends m b → inside z ≡ true → T b → read_markup by_bytes k w ≡ outside [] → m ≡ M.Spaced
attribute_gap M.Outside k z b w r l e i s h = absurd (let q : ◌≡◌ {A = Bool} false true = ap inside (sym l) ∙ i in let j : ◌≡◌ {A = ℕ} 0 1 = cc in omega arith)
attribute_gap M.Entered k z b w r l e i s h = absurd (e s)
attribute_gap M.Opening k z b w r l e i s h = absurd (e s)
attribute_gap M.Spaced k z b w r l e i s h = refl
attribute_gap M.Closing k z b w r l e i s h = absurd (let q : ◌≡◌ {A = Bool} false true = ap inside (sym l) ∙ i in let j : ◌≡◌ {A = ℕ} 0 1 = cc in omega arith)
attribute_gap M.Crossed (outside ns) z b w r l e i s h = absurd r
attribute_gap M.Crossed (inside_tag ns t) z b w r l e i s h = absurd r
attribute_gap M.Crossed ill z b w r l e i s h = absurd (never_ill w h)

gap_kind : (c : Bool) (m : Markup) (k : Reading) (z : Spot) (b : Bool) (w : Bytes) → inside z ≡ c → Reads m k → Lies m z → Ends m b → (T c → T b) → read_markup by_bytes k (filler c ++ w) ≡ outside [] → (kind_there m ≡ some c) × (read_markup by_bytes k w ≡ outside [])
unfolding kind_there
gap_kind true m k z b w i r l e s h = (ap kind_there (attribute_gap m k z b w r l e i (s tt) h), h)
gap_kind false m k z b w i r l e s h = let g = child_gap m k w r h in (ap kind_there g.0, g.1)

-- ---- all strings

-- as `kinds_from` joins them
abbrev both_kinds : Option Bool → Option (List Bool) → Option (List Bool)
both_kinds x y = elim x [ none ↦ none | some k ↦ elim y [ none ↦ none | some ks ↦ some (k ∷ ks) ] ]

kinds_on : (ss : List Bytes) (joined : Bytes) (m : Markup) (k : Reading) (b : Bool) → Reads m k → Lies m (spot_after out_of_tags joined) → Ends m b → Spaced b ss (places_after joined ss) →
    read_markup by_bytes k (filled ss (fillers (places_after joined ss))) ≡ outside [] → kinds_from m ss ≡ some (places_after joined ss)
unfolding places_after filled Spaced kinds_from
kinds_on [] joined m k b r l e s h = refl
kinds_on (t ∷ []) joined m k b r l e s h = refl
kinds_on (t ∷ u ∷ ss) joined m k b r l e s h =
    let j : Bytes = joined ++ t in
    let c : Bool = inside_opening_tag j in
    let ks : List Bool = places_after j (u ∷ ss) in
    let w : Bytes = filled (u ∷ ss) (fillers ks) in
    let k' : Reading = read_markup by_bytes k t in
    let r' = reads_all by_bytes t m k r in
    let l' = subst (Lies (all_passed m t)) (sym (spot_append out_of_tags joined t)) (lies_all t m (spot_after out_of_tags joined) l) in
    let e' = ends_all t m b e in
    let g = gap_kind c (all_passed m t) k' (spot_after out_of_tags j) (ends_spaced b t) w (spot_inside j) r' l' e' s.0 (sym (read_append by_bytes k t (filler c ++ w)) ∙ h) in
    let rest = kinds_on (u ∷ ss) j (all_passed m t) k' (ends_spaced b t) r' l' e' s.1 g.1 in
    ap₂ both_kinds g.0 rest

pub kinds_by_places : (ss : List Bytes) → Spaced false ss (places ss) → ((fs : List Bytes) → AllFit by_bytes (places ss) fs → WellNestedBy by_bytes (filled ss fs)) → kinds_by_strings ss ≡ some (places ss)
unfolding WellNestedBy
kinds_by_places ss s h = kinds_on ss [] M.Outside (outside []) false tt refl tt s (h (fillers (places ss)) (fillers_fit (places ss)))

-- ---- the templates of an accepted page

abbrev pub KindsInPlace : Bytes → Row → Type 0
KindsInPlace front strings = kinds_by_strings (strings_in strings) ≡ some (places (strings_in strings))

each_in_place : (x : Row) → Each84 SoundTemplate x → Each84 SpacedGaps x → Each84 KindsInPlace x
unfolding Each84
each_in_place end a b = tt
each_in_place (loose c) a b = tt
each_in_place (field t f i r) a b = (λ u. kinds_by_places (strings_in i) (b.0 u) ((a.0 u).nested by_bytes), each_in_place r a.1 b.1)

module _ (page options : Bytes) (scratch tr pr : ℕ) (w : Written) (all : AllBytes page) (e : outcome page options scratch tr pr ≡ accepted w) where
  pub kinds_of_accepted : Each84 KindsInPlace (read w.templates_out)
  unfolding Demand3Bytes
  kinds_of_accepted = each_in_place (read w.templates_out) (demand3 page options scratch tr pr w all e).each_sound (gaps_spaced page options scratch tr pr w all e)
