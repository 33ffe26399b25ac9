-- The parts of a name one by one, as the grammar and its reader have them, and what is counted of them. Main statements: `part_last`,
-- `part_ends`, `part_parted`, `naming_first`, `naming_step`, `naming_found`, `naming_misfit`, `naming_broken`, `naming_out`, `ident_found`,
-- `ident_long`.
-- Assumes nothing.
use Prim.Native.Nat.{ℕ, suc, ◌+◌, ◌-◌, ◌≤◌, ◌<◌}
use mathlib.Core.Path.{◌≡◌, refl, sym, ◌∙◌, ap, ap₂, subst}
use mathlib.Core.Bool.{Bool, true, false, ◌&&◌, ◌||◌, not}
use mathlib.Core.List.{[], ◌∷◌, ◌++◌, append_assoc}
use native.Mathlib.Omega.{arith}
use borrow.Author.Tests.{le-leb, lt-leb, not-false}
use lib.Dec.{T, leb, eqb}
use lib.ListN.{length, take, drop, get_or, length-append, length-drop, drop_of_length-le}
use lib.Seq.{length-take-le}
use Rattle.std.specs.Prelude.{Option, Some, None}
use Rattle.std.specs.Option.{is_some}
use Rattle.field.specs.Bytes.{Bytes}
use Rattle.grammar.specs.Signs.{choose, letter, name_byte, separator, space, name_goes_on}
use Rattle.grammar.specs.Syntax.{Part, part, Name, short, no_hyphen, attribute_name_fits, tag_name_fits}
use Rattle.grammar.specs.Grammar.{Ends, Run, run_ends, run_on, Spaces, no_space, space_on, IsIdent, ident, IsParts, no_parts, one_part, IsName, is_name}
use Rattle.grammar.specs.Reader.{For, for_tag, for_attribute, for_closing, State, in_ident, behind_ident, behind_sep, refused, fits, named, no_reading, step_behind, step, at_end, outcome}
use Rattle.grammar.proofs.Tests.{chose, passed, clash, not_or, letter_no_space, separator_no_space}
use Rattle.grammar.proofs.Complete.{go, through, refused_never, skip_behind, skip_sep, name_leaves}
use Rattle.read_tag.specs.Runs.{Ran}
use Rattle.read_tag.specs.Shapes.{name_tag, all_short, all_plain, all_points, Separated, shape_tag}
use Rattle.read_tag.specs.Names.{Behind, last, parted, PartAt, place_behind, PartStep, named_if, LetterAt, Scanned}
use Rattle.read_tag.specs.declared.name.NamePart.{NamePart}
use Rattle.read_tag.specs.declared.name.NameParts.{NameParts}
use Rattle.read_tag.proofs.FlagLaws.{and_assoc, and_true}
use Rattle.read_tag.proofs.ShapeLaws.{shape_is, shape_long, shape_one}
use Rattle.read_tag.proofs.RunLaws.{next}

-- the bytes from k to e
abbrev pub word : Bytes → ℕ → ℕ → Bytes
word s k e = take (e - k) (drop k s)

pub word_next : (s : Bytes) (k e : ℕ) → k < e → e ≤ length s → word s k e ≡ get_or s k 0 ∷ word s (k + 1) e
word_next s k e h l =
    let m : e - k ≡ suc (e - (k + 1)) = omega arith in
    ap (λ (n : ℕ). take n (drop k s)) m ∙ ap (take (suc (e - (k + 1)))) (next s k (omega arith))

pub word_length : (s : Bytes) (k e : ℕ) → e ≤ length s → length (word s k e) ≡ e - k
word_length s k e h = length-take-le (e - k) (drop k s) (omega (arith, length-drop k s))

-- ---- a part, and what follows it

run_spaces : {s w r : Bytes} → Run space s w r → Spaces s r
run_spaces (run_ends e) = no_space
run_spaces (run_on t q) = space_on t (run_spaces q)

run_end : {p : ℕ → Bool} {x w r : Bytes} → Run p x w r → Ends p r
run_end (run_ends e) = e
run_end (run_on t q) = run_end q

module _ (s : Bytes) (e k : ℕ) (r : Ran space s e k) where
  -- the text ends
  pub part_last : length s ≤ k → Behind s e None k
  unfolding Ends
  part_last h = last r (subst (Ends name_goes_on) (sym (drop_of_length-le s h)) tt)

  -- neither white space nor a sign
  pub part_ends : (c : ℕ) (b : Bool) → k < length s → c ≡ get_or s k 0 → b ≡ separator c → b ≡ false → Behind s e None k
  unfolding Ends name_goes_on
  part_ends c b h f g t =
      let x : T (not (space (get_or s k 0))) = subst (Ends space) (next s k h) (run_end r.run) in
      last r (subst (Ends name_goes_on) (sym (next s k h)) (neither (space (get_or s k 0)) (separator (get_or s k 0)) x (sym t ∙ g ∙ ap separator f)))
    where
      neither : (a d : Bool) → T (not a) → false ≡ d → T (not (a || d))
      neither true d u v = absurd u
      neither false d u v = subst (λ (z : Bool). T (not z)) v tt

  pub part_parted : (c n : ℕ) (b : Bool) → k < length s → c ≡ get_or s k 0 → b ≡ separator c → b ≡ true → Ran space s (k + 1) n → Behind s e (Some c) n
  part_parted c n b h f g t q = subst (λ (d : ℕ). Behind s e (Some d) n) (sym f) (parted r h (subst T (sym t ∙ g ∙ ap separator f) tt) q)

-- the sign d, and where it stands
pub record Signed (s : Bytes) (e d n : ℕ) : Type 0 where
  pub place : ℕ
  pub ran : Ran space s e place
  pub inside : place < length s
  pub is_sign : get_or s place 0 ≡ d
  pub sign : T (separator d)
  pub then : Ran space s (place + 1) n

module _ (s : Bytes) where
  pub unsigned : {e n : ℕ} {o : Option ℕ} → Behind s e o n → o ≡ None → Ran space s e n × Ends name_goes_on (drop n s)
  unsigned (last r x) z = (r, x)
  unsigned (parted {k} r h t q) z = cc

  pub signed : {e n d : ℕ} {o : Option ℕ} → Behind s e o n → o ≡ Some d → Signed s e d n
  signed (last r x) z = cc
  signed {d = d} (parted {k} r h t q) z =
      let i : get_or s k 0 ≡ d = cc in
      record { place = k; ran = r; inside = h; is_sign = i; sign = subst (λ (c : ℕ). T (separator c)) i t; then = q }

  -- ---- the steps over the parts

  pub parts_start : {x y : NameParts} {i : ℕ} (P : Option ℕ → Type 0) → y ≡ x → (x.text.now ≡ s) × (x.at ≡ Some i) → P (Some i) → (y.text.now ≡ s) × P y.at
  parts_start P e f h = (ap (λ (z : NameParts). z.text.now) e ∙ f.0, subst P (sym (ap (λ (z : NameParts). z.at) e ∙ f.1)) h)

  -- the text stays
  pub step_in : {t : Bytes} (k k' : Option ℕ) (r : Option NamePart) → t ≡ s → PartStep t k r k' → PartStep s k r k'
  step_in k k' r e y = subst (λ (w : Bytes). PartStep w k r k') e y

-- ---- the reader over a part

separator_goes : (m : Name) (d : ℕ) (x : For) → T (separator d) → step (behind_ident m x) d ≡ behind_sep m d x
unfolding step step_behind
separator_goes m d x u = passed (space d) _ _ (separator_no_space d u) ∙ chose (separator d) _ _ u

part_begins : (m : Name) (d : ℕ) (x : For) (c : ℕ) → T (letter c) → step (behind_sep m d x) c ≡ in_ident m d (c ∷ []) x
unfolding step
part_begins m d x c u = passed (space c) _ _ (letter_no_space c u) ∙ chose (letter c) _ _ u

no_part : (m : Name) (d : ℕ) (x : For) (c : ℕ) → T (not (space c)) → T (not (letter c)) → step (behind_sep m d x) c ≡ refused
unfolding step
no_part m d x c t u = passed (space c) (behind_sep m d x) _ t ∙ passed (letter c) (in_ident m d (c ∷ []) x) refused u

-- neither white space nor a letter behind a sign
sign_broken : (s : Bytes) (k : ℕ) (m : Name) (d : ℕ) (x : For) → Ends space (drop k s) → Ends letter (drop k s) → outcome (behind_sep m d x) (drop k s) ≡ no_reading
unfolding Ends
sign_broken s k m d x = on (drop k s)
  where
    on : (r : Bytes) → Ends space r → Ends letter r → outcome (behind_sep m d x) r ≡ no_reading
    on [] e f = unfold outcome at_end in refl
    on (c ∷ r) e f = go (behind_sep m d x) refused c r (no_part m d x c e f) ∙ refused_never r

-- a name that does not fit is not read
misfit : (s : Bytes) (m : Name) (x : For) → T (not (fits x m)) → Ends name_goes_on s → outcome (behind_ident m x) s ≡ outcome refused s
unfolding Ends outcome step step_behind name_goes_on at_end
misfit [] m x f e = refl
misfit (c ∷ s) m x f e =
    let g = not_or (space c) (separator c) e in
    ap (λ (z : State). outcome z s) (passed (space c) _ _ g.0 ∙ passed (separator c) _ _ g.1 ∙ passed (fits x m) _ _ f)

leaves : (s : Bytes) (m : Name) (x : For) → Ends name_goes_on s → outcome (behind_ident m x) s ≡ outcome (named_if x m) s
unfolding named_if
leaves s m x e = on (fits x m) refl
  where
    on : (b : Bool) → fits x m ≡ b → outcome (behind_ident m x) s ≡ outcome (choose (fits x m) (named x m) refused) s
    on true f =
        let t : T (fits x m) = subst T (sym f) tt in
        name_leaves s m x t e ∙ ap (λ (z : State). outcome z s) (sym (chose (fits x m) (named x m) refused t))
    on false f =
        let t : T (not (fits x m)) = subst (λ (b : Bool). T (not b)) (sym f) tt in
        misfit s m x t e ∙ ap (λ (z : State). outcome z s) (sym (passed (fits x m) (named x m) refused t))

module _ (s : Bytes) (k : ℕ) (r : NamePart) (h : k < length s) (p : PartAt s k r) where
  part_word : word s k p.end ≡ get_or s k 0 ∷ word s (k + 1) p.end
  part_word = word_next s k p.end (omega (arith, p.ran.after)) p.ran.inside

  pub part_ident : T (letter (get_or s k 0)) → IsIdent (drop k s) (word s k p.end) (drop p.end s)
  part_ident t =
      subst (λ (w : Bytes). IsIdent (drop k s) w (drop p.end s)) (sym part_word)
      (subst (λ (y : Bytes). IsIdent y (get_or s k 0 ∷ word s (k + 1) p.end) (drop p.end s)) (sym (next s k h)) (ident t p.ran.run))

  part_read : (m : Name) (d : ℕ) (x : For) → outcome (in_ident m d (get_or s k 0 ∷ []) x) (drop (k + 1) s) ≡ outcome (behind_ident (m ++ (part d (word s k p.end) ∷ [])) x) (drop p.end s)
  unfolding step
  part_read m d x =
      through name_byte (λ v. in_ident m d v x) (λ v. behind_ident (m ++ (part d v ∷ [])) x) (λ v e t. passed (name_byte e) _ _ t) (λ v. unfold at_end in refl) (λ v e t. chose (name_byte e) _ _ t) p.ran.run (get_or s k 0 ∷ []) ∙
      ap (λ (w : Bytes). outcome (behind_ident (m ++ (part d w ∷ [])) x) (drop p.end s)) (sym part_word)

  -- the last part
  read_last : r.sign ≡ None → (m : Name) (d : ℕ) (x : For) → outcome (in_ident m d (get_or s k 0 ∷ []) x) (drop (k + 1) s) ≡ outcome (named_if x (m ++ (part d (word s k p.end) ∷ []))) (drop r.next s)
  read_last z m d x =
      let n : Name = m ++ (part d (word s k p.end) ∷ []) in
      let b = unsigned s p.behind z in
      part_read m d x ∙ skip_behind n x (run_spaces b.0.run) ∙ leaves (drop r.next s) n x b.1

  module _ (g : ℕ) (z : r.sign ≡ Some g) where
    -- one with the sign g behind it
    read_parted : (m : Name) (d : ℕ) (x : For) → outcome (in_ident m d (get_or s k 0 ∷ []) x) (drop (k + 1) s) ≡ outcome (behind_sep (m ++ (part d (word s k p.end) ∷ [])) g x) (drop r.next s)
    read_parted m d x =
        let n : Name = m ++ (part d (word s k p.end) ∷ []) in
        let b = signed s p.behind z in
        part_read m d x ∙
        skip_behind n x (run_spaces b.ran.run) ∙
        ap (outcome (behind_ident n x)) (next s b.place b.inside ∙ ap (λ (c : ℕ). c ∷ drop (b.place + 1) s) b.is_sign) ∙
        go (behind_ident n x) (behind_sep n g x) g (drop (b.place + 1) s) (separator_goes n g x b.sign) ∙
        skip_sep n g x (run_spaces b.then.run)

    sign_spaces : Spaces (drop p.end s) (g ∷ drop ((signed s p.behind z).place + 1) s)
    sign_spaces =
        let b = signed s p.behind z in
        subst (Spaces (drop p.end s)) (next s b.place b.inside ∙ ap (λ (c : ℕ). c ∷ drop (b.place + 1) s) b.is_sign) (run_spaces b.ran.run)

    pub next_after : p.end < r.next
    next_after = let b = signed s p.behind z in omega (arith, b.ran.after, b.then.after)

  pub part_after : k < p.end
  part_after = omega (arith, p.ran.after)

  pub part_length : length r.word.now ≡ p.end - k
  part_length = ap length p.word_is ∙ word_length s k p.end p.ran.inside

-- ---- what is counted

short_more : (n : Name) (d : ℕ) (w : Bytes) → all_short (n ++ (part d w ∷ [])) ≡ (all_short n && short w)
unfolding all_short
short_more [] d w = and_true (short w)
short_more (part e v ∷ n) d w = ap (λ (b : Bool). short v && b) (short_more n d w) ∙ sym (and_assoc (short v) (all_short n) (short w))

plain_more : (n : Name) (d : ℕ) (w : Bytes) → all_plain (n ++ (part d w ∷ [])) ≡ (all_plain n && no_hyphen w)
unfolding all_plain
plain_more [] d w = and_true (no_hyphen w)
plain_more (part e v ∷ n) d w = ap (λ (b : Bool). no_hyphen v && b) (plain_more n d w) ∙ sym (and_assoc (no_hyphen v) (all_plain n) (no_hyphen w))

points_more : (n : Name) (d : ℕ) (w : Bytes) → all_points (n ++ (part d w ∷ [])) ≡ (all_points n && eqb d 46)
unfolding all_points
points_more [] d w = and_true (eqb d 46)
points_more (part e v ∷ n) d w = ap (λ (b : Bool). eqb e 46 && b) (points_more n d w) ∙ sym (and_assoc (eqb e 46) (all_points n) (eqb d 46))

separated_more : (n : Name) (d : ℕ) (w : Bytes) → Separated n → T (separator d) → Separated (n ++ (part d w ∷ []))
unfolding Separated
separated_more [] d w h t = (t, tt)
separated_more (part e v ∷ n) d w h t = (h.0, separated_more n d w h.1 t)

-- all behind the first
abbrev tail : Name → Name
tail [] = []
tail (p ∷ n) = n

tail_more : (n : Name) (p q : Part) → tail ((n ++ (p ∷ [])) ++ (q ∷ [])) ≡ tail (n ++ (p ∷ [])) ++ (q ∷ [])
tail_more [] p q = refl
tail_more (o ∷ n) p q = refl

shape_whole : (n : Name) (p : Part) → Separated (tail (n ++ (p ∷ []))) → shape_tag (length (n ++ (p ∷ []))) (all_short (n ++ (p ∷ []))) (all_plain (n ++ (p ∷ []))) (all_points (tail (n ++ (p ∷ [])))) ≡ choose (tag_name_fits (n ++ (p ∷ []))) (Some (name_tag (n ++ (p ∷ [])))) None
shape_whole [] p h = shape_is p [] h
shape_whole (o ∷ n) p h = shape_is o (n ++ (p ∷ [])) h

-- what a loop over the parts knows where the next may begin, at k: of the parts before it, and of the sign in front of it
pub record Naming (s : Bytes) (i k parts : ℕ) (a b c : Bool) : Type 0 where
  pub after : i ≤ k
  pub few : parts ≤ k
  pub before : Name
  pub sign : ℕ
  pub counted : parts ≡ length before
  pub short_is : a ≡ all_short before
  pub plain_is : b ≡ all_plain before
  pub points_is : (w : Bytes) → c ≡ all_points (tail (before ++ (part sign w ∷ [])))
  pub separated : (w : Bytes) → Separated (tail (before ++ (part sign w ∷ [])))
  pub whole : {w y r : Bytes} {ps : Name} → IsIdent (drop k s) w y → IsParts y ps r → IsName (drop i s) (before ++ (part sign w ∷ ps)) r
  pub leads : (x : For) → k < length s → T (letter (get_or s k 0)) → outcome (in_ident [] 0 (get_or s i 0 ∷ []) x) (drop (i + 1) s) ≡ outcome (in_ident before sign (get_or s k 0 ∷ []) x) (drop (k + 1) s)
  pub broken : Ends letter (drop k s) → Scanned s i None

-- the same by the place, which is left until the last part has passed, and where a letter stands
abbrev pub NamingOn : Bytes → ℕ → Option ℕ → ℕ → Bool → Bool → Bool → Type 0
NamingOn s i None parts a b c = ⊥
NamingOn s i (Some k) parts a b c = Naming s i k parts a b c × LetterAt s k

-- a name that is none of 01's fits nothing
fits_nothing : (n : Name) → T (not (tag_name_fits n)) → (x : For) → T (not (fits x n))
unfolding fits tag_name_fits
fits_nothing n t (for_tag K) = t
fits_nothing n t (for_attribute m ps K) = (not_or (attribute_name_fits n) _ t).0
fits_nothing n t (for_closing m ps ks K) = t

fits_by : (n : Name) (t : ℕ) → Some t ≡ choose (tag_name_fits n) (Some (name_tag n)) None → T (tag_name_fits n) × (t ≡ name_tag n)
unfolding choose
fits_by n t = on (tag_name_fits n)
  where
    on : (b : Bool) → Some t ≡ choose b (Some (name_tag n)) None → T b × (t ≡ name_tag n)
    on true e = (tt, cc)
    on false e = cc

misfit_by : (n : Name) → None ≡ choose (tag_name_fits n) (Some (name_tag n)) None → T (not (tag_name_fits n))
unfolding choose
misfit_by n = on (tag_name_fits n)
  where
    on : (b : Bool) → None ≡ choose b (Some (name_tag n)) None → T (not b)
    on true e = cc
    on false e = tt

pub no_sign : (o : Option ℕ) {b : Bool} → b ≡ is_some o → b ≡ false → o ≡ None
no_sign None e f = refl
no_sign (Some d) e f = cc

module _ (s : Bytes) (i : ℕ) where
  pub naming_first : i < length s → letter (get_or s i 0) ≡ true → Naming s i i 0 true true true
  unfolding all_short all_plain all_points Separated Ends
  naming_first h t =
      record {
        after = omega arith;
        few = omega arith;
        before = [];
        sign = 0;
        counted = refl;
        short_is = refl;
        plain_is = refl;
        points_is = λ w. refl;
        separated = λ w. tt;
        whole = λ u v. is_name u v;
        leads = λ x l u. refl;
        broken = λ e. clash (letter (get_or s i 0)) (subst T (sym t) tt) (subst (Ends letter) (next s i h) e);
      }

  module _ (k parts : ℕ) (a b c f : Bool) (r : NamePart) (u : Naming s i k parts a b c) (h : k < length s) (t : T (letter (get_or s k 0))) (p : PartAt s k r) (q : f ≡ no_hyphen r.word.now) where
    -- the name with the part at k
    longer : Name
    longer = u.before ++ (part u.sign (word s k p.end) ∷ [])

    longer_short : (a && leb (length r.word.now) 128) ≡ all_short longer
    unfolding longer short
    longer_short =
        ap₂ (λ (y z : Bool). y && z) u.short_is (ap (λ (w : Bytes). leb (length w) 128) p.word_is) ∙
        sym (short_more u.before u.sign (word s k p.end))

    longer_plain : (b && f) ≡ all_plain longer
    unfolding longer
    longer_plain = ap₂ (λ (y z : Bool). y && z) u.plain_is (q ∙ ap no_hyphen p.word_is) ∙ sym (plain_more u.before u.sign (word s k p.end))

    longer_length : parts + 1 ≡ length longer
    unfolding longer
    longer_length = ap (λ (m : ℕ). m + 1) u.counted ∙ sym (length-append u.before (part u.sign (word s k p.end) ∷ []))

    -- the sign g behind it, but no letter
    broken_behind : (g : ℕ) (z : r.sign ≡ Some g) → Ends letter (drop r.next s) → Scanned s i None
    unfolding Scanned
    broken_behind g z e x = u.leads x h t ∙ read_parted s k r h p g z u.before u.sign x ∙ sign_broken s r.next (u.before ++ (part u.sign (word s k p.end) ∷ [])) g x (run_end (signed s p.behind z).then.run) e

    pub naming_next : (g : ℕ) → r.sign ≡ Some g → Naming s i r.next (parts + 1) (a && leb (length r.word.now) 128) (b && f) (c && eqb g 46)
    unfolding longer
    naming_next g z =
        let w : Bytes = word s k p.end in
        let j = signed s p.behind z in
        let o = next_after s k r h p g z in
        record {
          after = omega (arith, u.after, p.ran.after);
          few = omega (arith, u.few, p.ran.after);
          before = longer;
          sign = g;
          counted = longer_length;
          short_is = longer_short;
          plain_is = longer_plain;
          points_is =
              λ v.
              ap (λ (m : Bool). m && eqb g 46) (u.points_is w) ∙
              sym (points_more (tail longer) g v) ∙
              ap all_points (sym (tail_more u.before (part u.sign w) (part g v)));
          separated =
              λ v.
              subst Separated (sym (tail_more u.before (part u.sign w) (part g v)))
              (separated_more (tail longer) g v (u.separated w) j.sign);
          whole =
              λ {w = v} {r = r'} {ps} d m.
              subst (λ (n : Name). IsName (drop i s) n r') (sym (append_assoc u.before (part u.sign w ∷ []) (part g v ∷ ps)))
              (u.whole (part_ident s k r h p t) (one_part (sign_spaces s k r h p g z) j.sign (run_spaces j.then.run) d m));
          leads =
              λ x l y.
              u.leads x h t ∙
              read_parted s k r h p g z u.before u.sign x ∙
              ap (outcome (behind_sep longer g x)) (next s r.next l) ∙
              go (behind_sep longer g x) (in_ident longer g (get_or s r.next 0 ∷ []) x) (get_or s r.next 0) (drop (r.next + 1) s) (part_begins longer g x (get_or s r.next 0) y);
          broken = broken_behind g z;
        }

    shape_here : (o : Option ℕ) → o ≡ shape_tag (parts + 1) (a && leb (length r.word.now) 128) (b && f) c → o ≡ choose (tag_name_fits longer) (Some (name_tag longer)) None
    unfolding longer
    shape_here o e =
        e ∙
        ap (λ (m : ℕ). shape_tag m (a && leb (length r.word.now) 128) (b && f) c) longer_length ∙
        ap (λ (m : Bool). shape_tag (length longer) m (b && f) c) longer_short ∙
        ap (λ (m : Bool). shape_tag (length longer) (all_short longer) m c) longer_plain ∙
        ap (shape_tag (length longer) (all_short longer) (all_plain longer)) (u.points_is (word s k p.end)) ∙
        shape_whole u.before (part u.sign (word s k p.end)) (u.separated (word s k p.end))

    module _ (z : r.sign ≡ None) (o : Option ℕ) (e : o ≡ shape_tag (parts + 1) (a && leb (length r.word.now) 128) (b && f) c) where
      leads_last : (x : For) → outcome (in_ident [] 0 (get_or s i 0 ∷ []) x) (drop (i + 1) s) ≡ outcome (named_if x longer) (drop r.next s)
      unfolding longer
      leads_last x = u.leads x h t ∙ read_last s k r h p z u.before u.sign x

      pub name_found : {n : ℕ} → o ≡ Some n → Scanned s i (Some record { tag = n; end = r.next })
      unfolding Scanned longer
      name_found {n} y =
          let j = unsigned s p.behind z in
          let g = fits_by longer n (sym y ∙ shape_here o e) in
          record {
            after = omega (arith, u.after, p.ran.after, j.0.after);
            inside = j.0.inside;
            name = longer;
            is = u.whole (part_ident s k r h p t) (no_parts (run_spaces j.0.run) j.1);
            fits_tag = g.0;
            tag_is = g.1;
            leads = leads_last;
          }

      -- none of 01's names
      pub name_misfit : o ≡ None → Scanned s i None
      unfolding Scanned named_if
      name_misfit n x =
          let g = fits_nothing longer (misfit_by longer (sym n ∙ shape_here o e)) x in
          leads_last x ∙ ap (λ (m : State). outcome m (drop r.next s)) (passed (fits x longer) (named x longer) refused g) ∙ refused_never (drop r.next s)

  -- ---- the same by the place where the next part begins

  -- a letter stands there, so the text does not end
  pub naming_out : (k k' : Option ℕ) (parts : ℕ) (a b c : Bool) → NamingOn s i k parts a b c → PartStep s k None k' → Scanned s i None
  naming_out None k' parts a b c u y = absurd u
  naming_out (Some k) k' parts a b c u y = absurd (omega (arith, u.1.0))

  first_letter : (k : ℕ) → LetterAt s k → T (letter (get_or s k 0))
  first_letter k u = subst T (sym u.1) tt

  module _ (k' : Option ℕ) (parts : ℕ) (a b c : Bool) (r : NamePart) where
    pub naming_room : (k : Option ℕ) → NamingOn s i k parts a b c → PartStep s k (Some r) k' → (parts < length s) × (0 < length r.word.now)
    naming_room None u y = absurd u
    naming_room (Some k) u y = (omega (arith, u.0.few, y.inside), omega (arith, part_length s k r y.inside y.part, part_after s k r y.inside y.part))

    module _ (f : Bool) (q : f ≡ no_hyphen r.word.now) where
      module _ (g : ℕ) (z : r.sign ≡ Some g) where
        -- behind the sign
        naming_behind : (k : ℕ) → NamingOn s i (Some k) parts a b c → PartStep s (Some k) (Some r) k' → Naming s i r.next (parts + 1) (a && leb (length r.word.now) 128) (b && f) (c && eqb g 46)
        naming_behind k u y = naming_next k parts a b c f r u.0 y.inside (first_letter k u.1) y.part q g z

        -- the text ends there; what the test of the byte there answered
        pub naming_cut : (k : Option ℕ) → NamingOn s i k parts a b c → PartStep s k (Some r) k' → length s ≤ r.next → Scanned s i None
        unfolding Ends
        naming_cut None u y h = absurd u
        naming_cut (Some k) u y h = (naming_behind k u y).broken (subst (Ends letter) (sym (drop_of_length-le s h)) tt)

        module _ (d : ℕ) (h : r.next < length s) (e : d ≡ get_or s r.next 0) (t : Bool) (v : t ≡ letter d) where
          pub naming_broken : (k : Option ℕ) → NamingOn s i k parts a b c → PartStep s k (Some r) k' → not t ≡ true → Scanned s i None
          unfolding Ends
          naming_broken None u y x = absurd u
          naming_broken (Some k) u y x =
              (naming_behind k u y).broken
              (subst (Ends letter) (sym (next s r.next h)) (subst (λ (o : ℕ). T (not (letter o))) e (subst T (sym (ap not (sym v) ∙ x)) tt)))

          pub naming_step : (k : Option ℕ) → NamingOn s i k parts a b c → PartStep s k (Some r) k' → not t ≡ false → NamingOn s i k' (parts + 1) (a && leb (length r.word.now) 128) (b && f) (c && eqb g 46)
          naming_step None u y x = absurd u
          naming_step (Some k) u y x =
              subst (λ (m : Option ℕ). NamingOn s i m (parts + 1) (a && leb (length r.word.now) 128) (b && f) (c && eqb g 46)) (sym (y.then ∙ ap (λ (m : Option ℕ). place_behind m r.next) z))
              (naming_behind k u y, (h, ap letter (sym e) ∙ sym v ∙ not-false t x))

      module _ (z : r.sign ≡ None) (o : Option ℕ) (e : o ≡ shape_tag (parts + 1) (a && leb (length r.word.now) 128) (b && f) c) where
        pub naming_found : (k : Option ℕ) → NamingOn s i k parts a b c → PartStep s k (Some r) k' → {n : ℕ} → o ≡ Some n → Scanned s i (Some record { tag = n; end = r.next })
        naming_found None u y x = absurd u
        naming_found (Some k) u y x = name_found k parts a b c f r u.0 y.inside (first_letter k u.1) y.part q z o e x

        pub naming_misfit : (k : Option ℕ) → NamingOn s i k parts a b c → PartStep s k (Some r) k' → o ≡ None → Scanned s i None
        naming_misfit None u y x = absurd u
        naming_misfit (Some k) u y x = name_misfit k parts a b c f r u.0 y.inside (first_letter k u.1) y.part q z o e x

  -- ---- one identifier alone

  module _ (h : i < length s) (t : letter (get_or s i 0) ≡ true) (r : NamePart) (p : PartAt s i r) (z : r.sign ≡ None) where
    starts : T (letter (get_or s i 0))
    starts = subst T (sym t) tt

    pub ident_found : length r.word.now ≤ 128 → Scanned s i (Some record { tag = 0x40; end = r.next })
    ident_found l =
        name_found i 0 true true true (no_hyphen r.word.now) r (naming_first h t) h starts p refl z (Some 0x40)
        (sym (ap (λ (x : Bool). shape_tag 1 x (no_hyphen r.word.now) true) (le-leb (length r.word.now) 128 l) ∙ shape_one (no_hyphen r.word.now) true)) refl

    pub ident_long : 128 < length r.word.now → Scanned s i None
    ident_long l =
        name_misfit i 0 true true true (no_hyphen r.word.now) r (naming_first h t) h starts p refl z None
        (sym (ap (λ (x : Bool). shape_tag 1 x (no_hyphen r.word.now) true) (lt-leb (length r.word.now) 128 l) ∙ shape_long 1 (no_hyphen r.word.now) true)) refl
