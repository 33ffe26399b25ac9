-- A name that stands in a text, part by part: its field as it is written, and two names as they are compared. Main statements: `apart`,
-- `putting_first`, `putting_step`, `parts_out`, `pairs_compared`.
-- Assumes nothing.
use Prim.Native.Nat.{ℕ, suc, ◌+◌, ◌-◌, ◌*◌, ◌≤◌, ◌<◌}
use mathlib.Core.Path.{◌≡◌, refl, sym, ◌∙◌, ap, ap₂, subst}
use mathlib.Core.Bool.{Bool, true, false, ◌&&◌, not}
use mathlib.Core.Logic.{◌⊎◌, inl, inr}
use mathlib.Core.List.{List, [], ◌∷◌, ◌++◌, append-nil, append_assoc}
use native.Mathlib.Omega.{arith}
use borrow.Author.Tests.{eq-eqb, ne_eqb}
use lib.Dec.{T, leb, eqb, eqb→eq, leb→le, nleb→lt}
use lib.ListN.{length, drop, drop_of_length-le}
use Rattle.field.specs.Bytes.{Bytes, same}
use Rattle.field.specs.Row.{field_bytes, bytes}
use Rattle.field.specs.Put.{Wrote}
use Rattle.field.proofs.PutLaws.{wrote_none, wrote_then, wrote_is, wrote_length, length_field_bytes}
use Rattle.names.proofs.ListLaws.{and_left, and_right}
use Rattle.page.specs.Encode.{texts_row}
use Rattle.grammar.specs.Signs.{name_byte, separator, space, name_goes_on}
use Rattle.grammar.specs.Syntax.{part, Name, same_name}
use Rattle.grammar.specs.Grammar.{Ends, Run, run_ends, run_on, Spaces, no_space, space_on, IsIdent, ident, IsParts, no_parts, one_part, IsName, is_name}
use Rattle.grammar.proofs.Tests.{clash, not_or, or_right, letter_no_space, separator_no_space}
use Rattle.tag_tree.specs.PageTag.{idents}
use Rattle.std.specs.Prelude.{Option, Some, None}
use Rattle.std.specs.Option.{MatchOption, option_eq}
use Rattle.std.specs.Fn.{Called}
use Rattle.std.specs.List.{FoldsTo}
use Rattle.std.specs.Iterator.{Yields, ChecksAll}
use Rattle.std.specs.declared.iter.Zip.{Zip}
use Rattle.std.specs.Iterator.Adapters.{zip_first, zip_second, zip_steps}
use denote.Param.Members.{Mut}
use Rattle.read_tag.specs.Names.{PartAt, place_behind, PartStep, GivesPart, NameAt, parts_bytes, PartsPut, NamesCompared}
use Rattle.read_tag.specs.declared.name.NamePart.{NamePart}
use Rattle.read_tag.specs.declared.name.NameParts.{NameParts}
use Rattle.read_tag.proofs.RunLaws.{next}
use Rattle.read_tag.proofs.NameLaws.{word, word_next, unsigned, signed, part_after, next_after, part_length, step_in}

-- ---- runs and white space end at one place

run_once : {p : ℕ → Bool} {s w r v t : Bytes} → Run p s w r → Run p s v t → (w ≡ v) × (r ≡ t)
unfolding Ends
run_once (run_ends e) (run_ends f) = (refl, refl)
run_once {p} (run_ends e) (run_on {c} t q) = clash (p c) t e
run_once {p} (run_on {c} t q) (run_ends f) = clash (p c) t f
run_once (run_on {c} t q) (run_on u o) = let z = run_once q o in (ap (λ (w : Bytes). c ∷ w) z.0, z.1)

spaces_once : {s r w t : Bytes} → Spaces s r → Ends space r → Run space s w t → r ≡ t
unfolding Ends
spaces_once no_space e (run_ends f) = refl
spaces_once no_space e (run_on {c} t q) = clash (space c) t e
spaces_once (space_on {c} u p) e (run_ends f) = clash (space c) u f
spaces_once (space_on u p) e (run_on t q) = spaces_once p e q

ident_once : {c : ℕ} {s w r v t : Bytes} → IsIdent (c ∷ s) w r → Run name_byte s v t → (w ≡ c ∷ v) × (r ≡ t)
ident_once {c} (ident t q) o = let z = run_once q o in (ap (λ (w : Bytes). c ∷ w) z.0, z.1)

ident_no_space : {s w r : Bytes} → IsIdent s w r → Ends space s
unfolding Ends
ident_no_space (ident {c} t q) = letter_no_space c t

ident_some : {s w r : Bytes} → IsIdent s w r → s ≡ [] → ⊥
ident_some (ident {c} {s} t q) e = let z : ◌≡◌ {A = ℕ} (suc (length s)) 0 = ap length e in omega arith

goes_no_space : (r : Bytes) → Ends name_goes_on r → Ends space r
unfolding Ends name_goes_on
goes_no_space [] e = tt
goes_no_space (c ∷ r) e = (not_or (space c) (separator c) e).0

sign_goes : {A : Type 0} (d : ℕ) (r s : Bytes) → r ≡ d ∷ s → T (separator d) → Ends name_goes_on r → A
unfolding Ends name_goes_on
sign_goes d r s q t e = clash (name_goes_on d) (or_right (space d) (separator d) t) (subst (Ends name_goes_on) q e)

sign_ends : (d : ℕ) (s : Bytes) → T (separator d) → Ends space (d ∷ s)
unfolding Ends
sign_ends d s t = separator_no_space d t

-- a further part behind the sign d, at u
pub record Further (d : ℕ) (u : Bytes) (ps : Name) (r : Bytes) : Type 0 where
  pub word_of : Bytes
  pub rest : Bytes
  pub parts : Name
  pub is : ps ≡ part d word_of ∷ parts
  pub stands : IsIdent u word_of rest
  pub behind : IsParts rest parts r

parts_none : {y r w t : Bytes} {ps : Name} → IsParts y ps r → Run space y w t → Ends name_goes_on t → ps ≡ []
parts_none (no_parts p e) q f = refl
parts_none {t = t} (one_part {s₁ = s₁} {d = d} p u o i k) q f =
    sign_goes d t s₁ (sym (spaces_once p (sign_ends d s₁ u) q)) u f

parts_some : {y r w t v u : Bytes} {ps : Name} (d : ℕ) → IsParts y ps r → Run space y w (d ∷ t) → T (separator d) → Run space t v u → Further d u ps r
parts_some {r = r} {t = t} d (no_parts p e) q f o = sign_goes d r t (spaces_once p (goes_no_space r e) q) f e
parts_some {r = r} {t = t} {u = u} d (one_part {s₁ = s₁} {s₂ = s₂} {w = x} {s₃ = y} {d = c} {ps} p g b i k) q f o =
    let z : c ∷ s₁ ≡ d ∷ t = spaces_once p (sign_ends c s₁ g) q in
    let a : c ≡ d = cc in
    let h : s₁ ≡ t = cc in
    record {
      word_of = x;
      rest = y;
      parts = ps;
      is = ap (λ (m : ℕ). part m x ∷ ps) a;
      stands = subst (λ (m : Bytes). IsIdent m x y) (spaces_once (subst (λ (m : Bytes). Spaces m s₂) h b) (ident_no_space i) o) i;
      behind = k;
    }

-- ---- at the places of a text

-- a part behind the sign d stands at k, and more parts behind it
pub record Left (s : Bytes) (k d : ℕ) (n : Name) : Type 0 where
  pub word_of : Bytes
  pub rest : Bytes
  pub last_rest : Bytes
  pub parts : Name
  pub is : n ≡ part d word_of ∷ parts
  pub stands : IsIdent (drop k s) word_of rest
  pub behind : IsParts rest parts last_rest

pub left_first : (s : Bytes) (i : ℕ) {n : Name} {r : Bytes} → IsName (drop i s) n r → Left s i 0 n
left_first s i {r = r} (is_name {w = w} {s₁} {ps = ps} u v) = record { word_of = w; rest = s₁; last_rest = r; parts = ps; is = refl; stands = u; behind = v }

ident_inside : (s : Bytes) (k : ℕ) {w r : Bytes} → IsIdent (drop k s) w r → k < length s
ident_inside s k u = on (leb (length s) k) refl
  where
    on : (b : Bool) → leb (length s) k ≡ b → k < length s
    on true e = absurd (ident_some u (drop_of_length-le s (leb→le (length s) k (subst T (sym e) tt))))
    on false e = nleb→lt (length s) k (subst (λ (b : Bool). T (not b)) (sym e) tt)

pub left_inside : (s : Bytes) (k d : ℕ) {n : Name} → Left s k d n → k < length s
left_inside s k d l = ident_inside s k l.stands

pub name_inside : (s : Bytes) (i : ℕ) → NameAt s i → i < length s
name_inside s i a = left_inside s i 0 (left_first s i a.is)

-- the part at k, and what is left behind it
pub record Apart (s : Bytes) (k d : ℕ) (n : Name) (r : NamePart) : Type 0 where
  pub more : Name
  pub is : n ≡ part d r.word.now ∷ more
  pub none : r.sign ≡ None → more ≡ []
  pub some : (g : ℕ) → r.sign ≡ Some g → Left s r.next g more

module _ (s : Bytes) (k d : ℕ) (n : Name) (r : NamePart) (l : Left s k d n) (p : PartAt s k r) where
  here : (l.word_of ≡ r.word.now) × (l.rest ≡ drop p.end s)
  here =
      let h : k < length s = left_inside s k d l in
      let z = ident_once (subst (λ (m : Bytes). IsIdent m l.word_of l.rest) (next s k h) l.stands) p.ran.run in
      (z.0 ∙ sym (word_next s k p.end (omega (arith, p.ran.after)) p.ran.inside) ∙ sym p.word_is, z.1)

  behind_here : IsParts (drop p.end s) l.parts l.last_rest
  behind_here = subst (λ (m : Bytes). IsParts m l.parts l.last_rest) here.1 l.behind

  no_more : r.sign ≡ None → l.parts ≡ []
  no_more z = let b = unsigned s p.behind z in parts_none behind_here b.0.run b.1

  more_left : (g : ℕ) → r.sign ≡ Some g → Left s r.next g l.parts
  more_left g z =
      let b = signed s p.behind z in
      let q : drop b.place s ≡ g ∷ drop (b.place + 1) s = next s b.place b.inside ∙ ap (λ (m : ℕ). m ∷ drop (b.place + 1) s) b.is_sign in
      let f = parts_some g behind_here (subst (Run space (drop p.end s) (word s p.end b.place)) q b.ran.run) b.sign b.then.run in
      record { word_of = f.word_of; rest = f.rest; last_rest = l.last_rest; parts = f.parts; is = f.is; stands = f.stands; behind = f.behind }

  pub apart : Apart s k d n r
  apart = record { more = l.parts; is = l.is ∙ ap (λ (w : Bytes). part d w ∷ l.parts) here.0; none = no_more; some = more_left }

-- ---- a 40 for each part

ident_bytes : (w : Bytes) (ws : List Bytes) → bytes (texts_row 0x40 (w ∷ ws)) ≡ field_bytes 0x40 w ++ bytes (texts_row 0x40 ws)
unfolding texts_row bytes
ident_bytes w ws = ap (λ (x : Bytes). field_bytes 0x40 x ++ bytes (texts_row 0x40 ws)) (append-nil w)

pub parts_bytes_none : parts_bytes [] ≡ []
unfolding parts_bytes idents texts_row bytes
parts_bytes_none = refl

parts_bytes_more : (n : Name) (d : ℕ) (w : Bytes) → parts_bytes (n ++ (part d w ∷ [])) ≡ parts_bytes n ++ field_bytes 0x40 w
unfolding parts_bytes idents
parts_bytes_more [] d w = ident_bytes w [] ∙ (unfold texts_row bytes in append-nil (field_bytes 0x40 w))
parts_bytes_more (part e v ∷ n) d w =
    ident_bytes v (idents (n ++ (part d w ∷ []))) ∙
    ap (λ (x : Bytes). field_bytes 0x40 v ++ x) (parts_bytes_more n d w) ∙
    sym (append_assoc (field_bytes 0x40 v) (parts_bytes n) (field_bytes 0x40 w)) ∙
    ap (λ (x : Bytes). x ++ field_bytes 0x40 w) (sym (ident_bytes v (idents n)))

-- what is written of the name n, and what stands at k
pub record Written (s : Bytes) (o : Bytes) (at : ℕ) (n : Name) (k : ℕ) (o' : Bytes) (at' : ℕ) : Type 0 where
  pub before : Name
  pub after : Name
  pub sign : ℕ
  pub left : Left s k sign after
  pub is : n ≡ before ++ after
  pub wrote : Wrote o at (parts_bytes before) o' at'

-- what a loop over the parts knows at k; a part takes at most four bytes for each of its own
pub record Putting (s : Bytes) (i : ℕ) (o : Bytes) (at k : ℕ) (o' : Bytes) (at' : ℕ) : Type 0 where
  pub place : i ≤ k
  pub room : at' ≤ at + 4 * (k - i)
  pub kept : length o' ≡ length o
  pub written : (n : Name) (r : Bytes) → IsName (drop i s) n r → Written s o at n k o' at'

-- the same by the place, which is left until the last part has passed
abbrev pub PuttingOn : Bytes → ℕ → Bytes → ℕ → Option ℕ → Bytes → ℕ → Type 0
PuttingOn s i o at None o' at' = PartsPut s i o at o' at'
PuttingOn s i o at (Some k) o' at' = Putting s i o at k o' at'

module _ (s : Bytes) (i : ℕ) (o : Bytes) (at : ℕ) (a : NameAt s i) where
  pub putting_first : Putting s i o at i o at
  putting_first =
      record {
        place = omega arith;
        room = omega arith;
        kept = refl;
        written = λ n r u. record { before = []; after = n; sign = 0; left = left_first s i u; is = refl; wrote = wrote_is (sym parts_bytes_none) (wrote_none o at) };
      }

  -- the text ends at k: a part stood there
  pub parts_out : (k k' : Option ℕ) (o' : Bytes) (at' : ℕ) → PuttingOn s i o at k o' at' → PartStep s k None k' → PartsPut s i o at o' at'
  parts_out None k' o' at' u y = u
  parts_out (Some k) k' o' at' u y = absurd (let l = left_inside s k _ (u.written a.name a.rest a.is).left in omega arith)

  module _ (r : NamePart) where
    -- a part of n bytes takes n + 3
    pub part_room : (k k' : Option ℕ) (o' : Bytes) (at' : ℕ) → PuttingOn s i o at k o' at' → PartStep s k (Some r) k' → at' + (length r.word.now + 3) ≤ at + 4 * length s
    part_room None k' o' at' u y = absurd y
    part_room (Some k) k' o' at' u y = omega (arith, u.place, u.room, part_after s k r y.inside y.part, part_length s k r y.inside y.part, y.part.ran.inside)

    module _ {o' : Bytes} {at' : ℕ} {o'' : Bytes} {at'' : ℕ} (w : Wrote o' at' (field_bytes 0x40 r.word.now) o'' at'') where
      wrote_part : (b : Name) (d : ℕ) → Wrote o at (parts_bytes b) o' at' → Wrote o at (parts_bytes (b ++ (part d r.word.now ∷ []))) o'' at''
      wrote_part b d v = wrote_is (sym (parts_bytes_more b d r.word.now)) (wrote_then v w)

      module _ (k : ℕ) (u : Putting s i o at k o' at') (h : k < length s) (p : PartAt s k r) where
        parts_put : r.sign ≡ None → PartsPut s i o at o'' at''
        unfolding PartsPut
        parts_put z n x v =
            let t = u.written n x v in
            let g = apart s k t.sign t.after r t.left p in
            let e : n ≡ t.before ++ (part t.sign r.word.now ∷ []) = t.is ∙ ap (λ (m : Name). t.before ++ m) (g.is ∙ ap (λ (m : Name). part t.sign r.word.now ∷ m) (g.none z)) in
            wrote_is (ap parts_bytes (sym e)) (wrote_part t.before t.sign t.wrote)

        putting_more : (g : ℕ) → r.sign ≡ Some g → Putting s i o at r.next o'' at''
        putting_more g z =
            record {
              place = omega (arith, u.place, part_after s k r h p, next_after s k r h p g z);
              kept = wrote_length w ∙ u.kept;
              room = omega (arith, next_after s k r h p g z, u.place, part_after s k r h p, part_length s k r h p, u.room, w.end_is, length_field_bytes 0x40 r.word.now);
              written =
                  λ n x v.
                  let t = u.written n x v in
                  let j = apart s k t.sign t.after r t.left p in
                  record {
                    before = t.before ++ (part t.sign r.word.now ∷ []);
                    after = j.more;
                    sign = g;
                    left = j.some g z;
                    is = t.is ∙ ap (λ (m : Name). t.before ++ m) j.is ∙ sym (append_assoc t.before (part t.sign r.word.now ∷ []) j.more);
                    wrote = wrote_part t.before t.sign t.wrote;
                  };
            }

        putting_behind : (g : Option ℕ) → r.sign ≡ g → PuttingOn s i o at (place_behind g r.next) o'' at''
        putting_behind None z = parts_put z
        putting_behind (Some g) z = putting_more g z

      pub putting_step : (k k' : Option ℕ) → PuttingOn s i o at k o' at' → PartStep s k (Some r) k' → PuttingOn s i o at k' o'' at''
      putting_step None k' u y = absurd y
      putting_step (Some k) k' u y = subst (λ (m : Option ℕ). PuttingOn s i o at m o'' at'') (sym y.then) (putting_behind k u y.inside y.part r.sign refl)

pub parts_end : (s : Bytes) (i : ℕ) (o : Bytes) (at : ℕ) (o' : Bytes) (r : ℕ) → PartsPut s i o at o' r → NameAt s i → at ≤ r
unfolding PartsPut
parts_end s i o at o' r u a = let w = u a.name a.rest a.is in omega (arith, w.end_is)

-- ---- two names side by side

-- what is left of both, behind the same sign
pub record Aside (s : Bytes) (m n : Name) (a b : ℕ) : Type 0 where
  pub left_m : Name
  pub left_n : Name
  pub sign : ℕ
  pub left_a : Left s a sign left_m
  pub left_b : Left s b sign left_n
  pub is : same_name m n ≡ same_name left_m left_n

pub record Comparing (s : Bytes) (i j a b : ℕ) : Type 0 where
  pub aside : (m n : Name) (x y : Bytes) → IsName (drop i s) m x → IsName (drop j s) n y → Aside s m n a b

-- ---- what holds at each turn of `all`

module _ {S A F : Type 0} (steps : S → Option A → S → Type 0) (g : Mut F (A × Unit {0}) Bool) (P : S → Type 0) (Q : Bool → Type 0) (test : A → Bool) (f : F)
    (calls : (x : A) (b : Bool) (q : F) → Called g f (x, tt) b q → (q ≡ f) × (b ≡ test x))
    (pass : (s : S) (x : A) (t : S) → P s → steps s (Some x) t → test x ≡ true → P t)
    (stop : (s : S) (x : A) (t : S) → P s → steps s (Some x) t → test x ≡ false → Q false)
    (end : (s t : S) → P s → steps s None t → Q true) where
  call_at : (x : A) (b : Bool) (e q : F) → e ≡ f → Called g e (x, tt) b q → (q ≡ f) × (b ≡ test x)
  call_at x b e q h c = calls x b q (subst (λ (z : F). Called g z (x, tt) b q) h c)

  along : (xs : List A) (s t : S) (e j : F) → e ≡ f → P s → Yields steps s xs t → FoldsTo (λ p x q. Called g p (x, tt) true q) e xs j → P t × (j ≡ f)
  along [] s t e j h p y c = (subst P y p, sym c ∙ h)
  along (x ∷ xs) s t e j h p y c =
      let k = call_at x true e c.0 h c.1 in
      along xs y.0 t c.0 j k.0 (pass s x y.0 p y.1 (sym k.1)) y.2 c.2

  all_along : (r : Bool) (s u : S) → P s → ChecksAll steps g s f r u → Q r
  all_along r s u p d =
      let w = along d.0 s d.3.0 f d.2 refl p d.3.1 d.4 in
      on d.1 d.3.0 d.2 w.0 w.1 d.3.2 d.5
    where
      on : (o : Option A) (t : S) (j : F) → P t → j ≡ f → steps t o u → MatchOption o (r ≡ true) (λ x. (r ≡ false) × ((h : F) × Called g j (x, tt) false h)) → Q r
      on None t j p h y e = subst Q (sym e) (end t u p y)
      on (Some x) t j p h y e = subst Q (sym e.0) (stop t x u p y (sym (call_at x false j e.1.0 h e.1.1).1))

-- ---- both scans side by side

abbrev same_part : NamePart × NamePart → Bool
same_part x = same x.0.word.now x.1.word.now && option_eq eqb x.0.sign x.1.sign

-- the same by the places: both are left, or none
abbrev pub ComparingOn : Bytes → ℕ → ℕ → Option ℕ → Option ℕ → Type 0
ComparingOn s i j None None = NamesCompared s i j true
ComparingOn s i j None (Some b) = ⊥
ComparingOn s i j (Some a) None = ⊥
ComparingOn s i j (Some a) (Some b) = Comparing s i j a b

same_sign : (f g : Option ℕ) → option_eq eqb f g ≡ true → f ≡ g
same_sign None None e = refl
same_sign None (Some g) e = cc
same_sign (Some f) None e = cc
same_sign (Some f) (Some g) e = ap Some (eqb→eq f g (subst T (sym e) tt))

other_sign : (f g : Option ℕ) → option_eq eqb f g ≡ false → f ≡ g → ⊥
other_sign None None e z = cc
other_sign None (Some g) e z = cc
other_sign (Some f) None e z = cc
other_sign (Some f) (Some g) e z =
    let y : f ≡ g = cc in
    let w : eqb f g ≡ true = eq-eqb f g y in
    cc

same_parts : (d : ℕ) (w v : Bytes) (ps qs : Name) → same_name (part d w ∷ ps) (part d v ∷ qs) ≡ (same w v && same_name ps qs)
unfolding same_name
same_parts d w v ps qs = ap (λ (b : Bool). (b && same w v) && same_name ps qs) (eq-eqb d d refl)

other_signs : (d e : ℕ) (w v : Bytes) (ps qs : Name) → (d ≡ e → ⊥) → same_name (part d w ∷ ps) (part e v ∷ qs) ≡ false
unfolding same_name
other_signs d e w v ps qs h = ap (λ (b : Bool). (b && same w v) && same_name ps qs) (ne_eqb d e h)

module _ (s : Bytes) (i j : ℕ) (f : NameAt s i) (g : NameAt s j) where
  comparing_first : Comparing s i j i j
  comparing_first = record { aside = λ m n x y u v. record { left_m = m; left_n = n; sign = 0; left_a = left_first s i u; left_b = left_first s j v; is = refl } }

  given : {a b : ℕ} → Comparing s i j a b → Aside s f.name g.name a b
  given u = u.aside f.name g.name f.rest g.rest f.is g.is

  -- the text ends where a part of either is left: it stood there
  names_out : (a b : Option ℕ) → ComparingOn s i j a b → (a' : Option ℕ) → PartStep s a None a' ⊎ PartStep s b None a' → NamesCompared s i j true
  names_out None None u a' y = u
  names_out None (Some b) u a' y = absurd u
  names_out (Some a) None u a' y = absurd u
  names_out (Some a) (Some b) u a' (inl y) = absurd (let l = left_inside s a _ (given u).left_a in omega arith)
  names_out (Some a) (Some b) u a' (inr y) = absurd (let l = left_inside s b _ (given u).left_b in omega arith)

  module _ (p q : NamePart) where
    module _ (a b : ℕ) (u : Comparing s i j a b) (h : PartAt s a p) (k : PartAt s b q) where
      -- the parts at a and b, and what is left behind them
      beside : (m n : Name) (t : Aside s m n a b) → Apart s a t.sign t.left_m p × Apart s b t.sign t.left_n q
      beside m n t = (apart s a t.sign t.left_m p t.left_a h, apart s b t.sign t.left_n q t.left_b k)

      both_parts : (m n : Name) (t : Aside s m n a b) (x : Apart s a t.sign t.left_m p) (y : Apart s b t.sign t.left_n q) → same_name m n ≡ (same p.word.now q.word.now && same_name x.more y.more)
      both_parts m n t x y = t.is ∙ ap₂ same_name x.is y.is ∙ same_parts t.sign p.word.now q.word.now x.more y.more

      words_apart : same p.word.now q.word.now ≡ false → NamesCompared s i j false
      unfolding NamesCompared
      words_apart e m n x y v w =
          let o = u.aside m n x y v w in
          let z = beside m n o in
          sym (both_parts m n o z.0 z.1 ∙ ap (λ (b : Bool). b && same_name z.0.more z.1.more) e)

      module _ (e : same p.word.now q.word.now ≡ true) where
        rest_same : (m n : Name) (o : Aside s m n a b) (x : Apart s a o.sign o.left_m p) (y : Apart s b o.sign o.left_n q) → same_name m n ≡ same_name x.more y.more
        rest_same m n o x y = both_parts m n o x y ∙ ap (λ (b : Bool). b && same_name x.more y.more) e

        signs_apart : (p.sign ≡ q.sign → ⊥) → NamesCompared s i j false
        unfolding NamesCompared same_name
        signs_apart d m n x y v w =
            let o = u.aside m n x y v w in
            let l = beside m n o in
            sym (rest_same m n o l.0 l.1 ∙ on l.0 l.1 p.sign q.sign refl refl)
          where
            on : {l : ℕ} {m' n' : Name} (x : Apart s a l m' p) (y : Apart s b l n' q) (f g : Option ℕ) → p.sign ≡ f → q.sign ≡ g → same_name x.more y.more ≡ false
            on x y None None r o = absurd (d (r ∙ sym o))
            on x y None (Some g) r o = ap₂ same_name (x.none r) (y.some g o).is
            on x y (Some f) None r o = ap₂ same_name (x.some f r).is (y.none o)
            on x y (Some f) (Some g) r o =
                let l = x.some f r in
                let m = y.some g o in
                ap₂ same_name l.is m.is ∙ other_signs f g l.word_of m.word_of l.parts m.parts (λ z. d (r ∙ ap Some z ∙ sym o))

        compared_behind : (o : Option ℕ) → p.sign ≡ o → q.sign ≡ o → ComparingOn s i j (place_behind o p.next) (place_behind o q.next)
        unfolding NamesCompared
        compared_behind None x y =
            λ m n v w t r.
            let o = u.aside m n v w t r in
            let l = beside m n o in
            sym (rest_same m n o l.0 l.1 ∙ ap₂ same_name (l.0.none x) (l.1.none y) ∙ (unfold same_name in refl))
        compared_behind (Some d) x y =
            record {
              aside =
                  λ m n v w t r.
                  let o = u.aside m n v w t r in
                  let l = beside m n o in
                  record { left_m = l.0.more; left_n = l.1.more; sign = d; left_a = l.0.some d x; left_b = l.1.some d y; is = rest_same m n o l.0 l.1 };
            }

    -- by what the test of both answered
    module _ (a' b' : Option ℕ) where
      parts_differ : (a b : Option ℕ) → ComparingOn s i j a b → PartStep s a (Some p) a' → PartStep s b (Some q) b' → same_part (p, q) ≡ false → NamesCompared s i j false
      parts_differ None b u y z t = absurd y
      parts_differ (Some a) None u y z t = absurd u
      parts_differ (Some a) (Some b) u y z t = on (same p.word.now q.word.now) refl
        where
          on : (c : Bool) → same p.word.now q.word.now ≡ c → NamesCompared s i j false
          on true e = signs_apart a b u y.part z.part e (other_sign p.sign q.sign (sym (ap (λ (c : Bool). c && option_eq eqb p.sign q.sign) e) ∙ t))
          on false e = words_apart a b u y.part z.part e

      comparing_step : (a b : Option ℕ) → ComparingOn s i j a b → PartStep s a (Some p) a' → PartStep s b (Some q) b' → same_part (p, q) ≡ true → ComparingOn s i j a' b'
      comparing_step None b u y z t = absurd y
      comparing_step (Some a) None u y z t = absurd u
      comparing_step (Some a) (Some b) u y z t =
          let h : p.sign ≡ q.sign = same_sign p.sign q.sign (and_right (same p.word.now q.word.now) (option_eq eqb p.sign q.sign) t) in
          subst (λ (m : Option ℕ). ComparingOn s i j m b') (sym y.then)
          (subst (ComparingOn s i j (place_behind p.sign p.next)) (sym (z.then ∙ ap (λ (m : Option ℕ). place_behind m q.next) (sym h))) (compared_behind a b u y.part z.part (and_left (same p.word.now q.word.now) (option_eq eqb p.sign q.sign) t) p.sign refl (sym h)))

  -- both scans of parts are where the names are compared
  abbrev Pairing : Zip NameParts NameParts → Type 0
  Pairing z = ((zip_first z).text.now ≡ s) × ((zip_second z).text.now ≡ s) × ComparingOn s i j (zip_first z).at (zip_second z).at

  pairs_pass : (z : Zip NameParts NameParts) (x : NamePart × NamePart) (t : Zip NameParts NameParts) → Pairing z → zip_steps GivesPart GivesPart z (Some x) t → same_part x ≡ true → Pairing t
  pairs_pass z x t u y e =
      (y.0.0 ∙ u.0, y.1.0 ∙ u.1, comparing_step x.0 x.1 (zip_first t).at (zip_second t).at (zip_first z).at (zip_second z).at u.2 (step_in s _ _ _ u.0 y.0.1) (step_in s _ _ _ u.1 y.1.1) e)

  pairs_stop : (z : Zip NameParts NameParts) (x : NamePart × NamePart) (t : Zip NameParts NameParts) → Pairing z → zip_steps GivesPart GivesPart z (Some x) t → same_part x ≡ false → NamesCompared s i j false
  pairs_stop z x t u y e = parts_differ x.0 x.1 (zip_first t).at (zip_second t).at (zip_first z).at (zip_second z).at u.2 (step_in s _ _ _ u.0 y.0.1) (step_in s _ _ _ u.1 y.1.1) e

  pairs_end : (z t : Zip NameParts NameParts) → Pairing z → zip_steps GivesPart GivesPart z None t → NamesCompared s i j true
  pairs_end z t u (inl y) = names_out (zip_first z).at (zip_second z).at u.2 y.0.at (inl (step_in s _ _ _ u.0 y.1.1))
  pairs_end z t u (inr y) = names_out (zip_first z).at (zip_second z).at u.2 y.0.at (inr (step_in s _ _ _ u.1 y.1.1))

  pub pairs_compared : {F : Type 0} {call : Mut F ((NamePart × NamePart) × Unit {0}) Bool} (f : F) (r : Bool) (z u : Zip NameParts NameParts) →
      (zip_first z).text.now ≡ s → (zip_second z).text.now ≡ s → (zip_first z).at ≡ Some i → (zip_second z).at ≡ Some j →
      ((x : NamePart × NamePart) (b : Bool) (q : F) → Called call f (x, tt) b q → (q ≡ f) × (b ≡ same_part x)) → ChecksAll (zip_steps GivesPart GivesPart) call z f r u → NamesCompared s i j r
  pairs_compared {call = call} f r z u a b c d calls ran =
      all_along (zip_steps GivesPart GivesPart) call Pairing (NamesCompared s i j) same_part f calls pairs_pass pairs_stop pairs_end r z u
      (a, b, subst (λ (k : Option ℕ). ComparingOn s i j k (zip_second z).at) (sym c) (subst (ComparingOn s i j (Some i)) (sym d) comparing_first)) ran
