-- Where a text is UTF-8, so is every text that is read from it, and what follows it; and names are made of 01's letters.
-- Main statements: `decoded_utf8`, `known_utf8`, `source_utf8`, `name_utf8`, `name_idents`. Assumes nothing.
use Prim.Native.Nat.{ℕ, ◌≤◌, ◌<◌}
use mathlib.Core.Path.{◌≡◌, refl, sym, ◌∙◌, ap, ap₂, subst}
use mathlib.Core.Bool.{Bool, true, false, ◌&&◌, ◌||◌, not, cond, false≢true, and-eq-true_iff}
use mathlib.Core.List.{List, [], ◌∷◌, ◌++◌, append-nil, append_assoc}
use mathlib.Core.Logic.{◌⊎◌, inl, inr}
use mathlib.Core.Option.{Option, none, some}
use native.Mathlib.Omega.{arith}
use lib.Dec.{T, leb, eqb, leb→le, eqb→eq}
use lib.ListN.{length}
use Rattle.std.specs.Prelude as S
use Rattle.field.specs.Bytes.{Bytes, ascii, same}
use Rattle.utf8.specs.Utf8.{Range, ◌to◌, within, Form, ◌then◌, forms, begun, utf8_behind, utf8}
use Rattle.utf8.proofs.Laws.{utf8_append, utf8_cons}
use Rattle.grammar.specs.Signs.{choose, each, some_byte, letter, digit, name_byte, separator, space, text_byte, string_byte, quote}
use Rattle.grammar.specs.Known as K
use Rattle.grammar.specs.Known.{Known, kept, trimmed_end, number_of, string_from, string_of, rest_of, or_else, known_trimmed, known_of, entity_of}
use Rattle.grammar.specs.Syntax.{part, Name}
use Rattle.grammar.specs.Grammar.{Ends, Run, run_ends, run_on, Decoded, decoded_ends, decoded_on, entity, Spaces, no_space, space_on, IsIdent, ident, IsParts, no_parts, one_part, IsName, is_name, IsSource, source_ends, source_on, quotes, braces}
use Rattle.grammar.proofs.Tests.{chosen, or_cases, at_eq, quote_is}

both : (a b : Bool) → T a → T b → T (a && b)
both true b t u = u
both false b t u = absurd t

abbrev pub Whole : Bytes → Type 0
Whole s = utf8 s ≡ true

-- ---- bytes behind the first of a character are over ASCII

unfoldable High : List Range → Type 0
High [] = Unit {0}
High ((a to z) ∷ rs) = (0x80 ≤ a) × High rs

unfoldable AllHigh : List Form → Type 0
AllHigh [] = Unit {0}
AllHigh ((r then rs) ∷ fs) = High rs × AllHigh fs

abbrev HighIf : Option (List Range) → Type 0
HighIf none = Unit {0}
HighIf (some rs) = High rs

begun_high_in : (c : ℕ) (fs : List Form) → AllHigh fs → HighIf (begun c fs)
unfolding begun AllHigh
begun_high_in c [] h = tt
begun_high_in c ((r then rs) ∷ fs) h = on (within r c) (begun_high_in c fs h.1)
  where
    on : (b : Bool) → HighIf (begun c fs) → HighIf (cond b (some rs) (begun c fs))
    on true k = h.0
    on false k = k

begun_high : (c : ℕ) → HighIf (begun c forms)
unfolding forms AllHigh High
begun_high c =
    let one : 0x80 ≤ 0x80 = omega arith in
    let a0 : 0x80 ≤ 0xA0 = omega arith in
    let ninety : 0x80 ≤ 0x90 = omega arith in
    begun_high_in c forms (tt, ((one, tt), ((a0, (one, tt)), ((one, (one, tt)), ((one, (one, tt)), ((one, (one, tt)), ((ninety, (one, (one, tt))), ((one, (one, (one, tt))), ((one, (one, (one, tt))), tt)))))))))

-- an ASCII byte stands behind whole characters alone
ascii_first : {A : Type 0} (c : ℕ) (r : Range) (rs : List Range) (s : Bytes) → c < 0x80 → High (r ∷ rs) → utf8_behind (r ∷ rs) (c ∷ s) ≡ true → A
unfolding utf8_behind High
ascii_first c (a to z) rs s l h e =
    let p = (and-eq-true_iff (within (a to z) c) (utf8_behind rs s)).0 e in
    let q = (and-eq-true_iff (leb a c) (leb c z)).0 p.0 in
    let k = leb→le a c (subst T (sym q.0) tt) in
    let m = h.0 in
    absurd (omega arith)

pub skip_ascii : (c : ℕ) (s : Bytes) → c < 0x80 → Whole (c ∷ s) → Whole s
skip_ascii c s l e = sym (utf8_cons c s l) ∙ e

-- one byte more in front of both, from a character's first byte on or behind it
carry : (s w : Bytes) (A : Type 0) → ((rs : List Range) → High rs → utf8_behind rs s ≡ true → (utf8_behind rs w ≡ true) × A) → (o : Option (List Range)) → HighIf o → elim o as (λ _. Bool) [ none ↦ false | some rs ↦ utf8_behind rs s ] ≡ true → (elim o as (λ _. Bool) [ none ↦ false | some rs ↦ utf8_behind rs w ] ≡ true) × A
carry s w A f none h e = absurd (false≢true e)
carry s w A f (some rs) h e = f rs h e

step : (c : ℕ) (s w : Bytes) (A : Type 0) → ((rs : List Range) → High rs → utf8_behind rs s ≡ true → (utf8_behind rs w ≡ true) × A) → (rs : List Range) → High rs → utf8_behind rs (c ∷ s) ≡ true → (utf8_behind rs (c ∷ w) ≡ true) × A
unfolding utf8_behind High
step c s w A f [] h e = carry s w A f (begun c forms) (begun_high c) e
step c s w A f ((a to z) ∷ rs) h e =
    let p = (and-eq-true_iff (within (a to z) c) (utf8_behind rs s)).0 e in
    let q = f rs h.1 p.1 in
    ((and-eq-true_iff (within (a to z) c) (utf8_behind rs w)).1 (p.0, q.0), q.1)

-- ---- a text parted at an ASCII byte

split_behind : (w : Bytes) (c : ℕ) (r : Bytes) → c < 0x80 → (rs : List Range) → High rs → utf8_behind rs (w ++ (c ∷ r)) ≡ true → (utf8_behind rs w ≡ true) × Whole r
split_behind [] c r l [] h e = (unfold utf8_behind in refl, skip_ascii c r l (unfold utf8 in e))
split_behind [] c r l (g ∷ rs) h e = ascii_first c g rs r l h e
split_behind (d ∷ w) c r l rs h e = step d (w ++ (c ∷ r)) w (Whole r) (split_behind w c r l) rs h e

pub split : (w : Bytes) (c : ℕ) (r : Bytes) → c < 0x80 → Whole (w ++ (c ∷ r)) → Whole w × Whole r
unfolding utf8 High
split w c r l e = split_behind w c r l [] tt e

-- ---- white space

space_small : (c : ℕ) → T (space c) → c < 0x80
unfolding space
space_small c t = on₁ (or_cases (eqb c 9 || eqb c 10 || eqb c 13) (eqb c 32) t)
  where
    P : ℕ → Type 0
    P d = d < 0x80

    on₃ : T (eqb c 9) ⊎ T (eqb c 10) → P c
    on₃ (inl u) = at_eq P c 9 u (omega arith)
    on₃ (inr u) = at_eq P c 10 u (omega arith)

    on₂ : T (eqb c 9 || eqb c 10) ⊎ T (eqb c 13) → P c
    on₂ (inl u) = on₃ (or_cases (eqb c 9) (eqb c 10) u)
    on₂ (inr u) = at_eq P c 13 u (omega arith)

    on₁ : T (eqb c 9 || eqb c 10 || eqb c 13) ⊎ T (eqb c 32) → P c
    on₁ (inl u) = on₂ (or_cases (eqb c 9 || eqb c 10) (eqb c 13) u)
    on₁ (inr u) = at_eq P c 32 u (omega arith)

pub spaces_utf8 : {s r : Bytes} → Spaces s r → Whole s → Whole r
spaces_utf8 no_space e = e
spaces_utf8 (space_on {c} {s} u p) e = spaces_utf8 p (skip_ascii c s (space_small c u) e)

kept_behind : (c : ℕ) (t : Bytes) (rs : List Range) → High rs → utf8_behind rs (c ∷ t) ≡ true → utf8_behind rs (kept c t) ≡ true
unfolding kept choose
kept_behind c (d ∷ t) rs h e = e
kept_behind c [] rs h e = on (space c) refl rs h e
  where
    on : (b : Bool) → space c ≡ b → (rs : List Range) → High rs → utf8_behind rs (c ∷ []) ≡ true → utf8_behind rs (choose b [] (c ∷ [])) ≡ true
    on true i [] h e = unfold utf8_behind in refl
    on true i (g ∷ rs) h e = ascii_first c g rs [] (space_small c (subst T (sym i) tt)) h e
    on false i rs h e = e

trimmed_behind : (w : Bytes) (rs : List Range) → High rs → utf8_behind rs w ≡ true → utf8_behind rs (trimmed_end w) ≡ true
unfolding trimmed_end
trimmed_behind [] rs h e = e
trimmed_behind (c ∷ w) rs h e = kept_behind c (trimmed_end w) rs h (step c w (trimmed_end w) (Unit {0}) (λ gs k f. (trimmed_behind w gs k f, tt)) rs h e).0

-- ---- entities, and texts that they are decoded in

same_is : (x y : Bytes) → T (same x y) → x ≡ y
unfolding same
same_is [] [] t = refl
same_is [] (d ∷ ds) t = absurd t
same_is (c ∷ cs) [] t = absurd t
same_is (c ∷ cs) (d ∷ ds) t = on (eqb c d) refl t (same_is cs ds)
  where
    on : (b : Bool) → eqb c d ≡ b → T (b && same cs ds) → (T (same cs ds) → cs ≡ ds) → c ∷ cs ≡ d ∷ ds
    on true i u k = ap₂ (λ (a : ℕ) (l : Bytes). a ∷ l) (eqb→eq c d (subst T (sym i) tt)) (k u)
    on false i u k = absurd u

-- what is decoded, and the text behind the entity
abbrev Entity : Bytes → ℕ → Type 0
Entity e d = ((x : Bytes) → utf8 (e ++ x) ≡ utf8 x) × (d < 0x80)

entity_one : (e n : Bytes) (c d : ℕ) → Whole n → c < 0x80 → T (same e n) → S.Some c ≡ S.Some d → Entity e d
entity_one e n c d w l t q =
    let i : e ≡ n = same_is e n t in
    let j : c ≡ d = cc in
    (λ x. ap (λ (z : Bytes). utf8 (z ++ x)) i ∙ utf8_append n x w, subst (λ (z : ℕ). z < 0x80) j l)

no_entity : {A : Type 0} (d : ℕ) → S.None ≡ S.Some d → A
no_entity d e = let z : ◌≡◌ {A = ℕ} 0 1 = cc in absurd (omega arith)

entity_ascii : (e : Bytes) (d : ℕ) → entity_of e ≡ S.Some d → Entity e d
unfolding entity_of
entity_ascii e d =
    chosen (λ z. z ≡ S.Some d) (same e (ascii "amp")) _ _ (λ t q. entity_one e (ascii "amp") _ d (unfold utf8 utf8_behind forms begun in refl) (omega arith) t q)
    (λ _. chosen (λ z. z ≡ S.Some d) (same e (ascii "lt")) _ _ (λ t q. entity_one e (ascii "lt") _ d (unfold utf8 utf8_behind forms begun in refl) (omega arith) t q)
    (λ _. chosen (λ z. z ≡ S.Some d) (same e (ascii "gt")) _ _ (λ t q. entity_one e (ascii "gt") _ d (unfold utf8 utf8_behind forms begun in refl) (omega arith) t q)
    (λ _. chosen (λ z. z ≡ S.Some d) (same e (ascii "quot")) _ _ (λ t q. entity_one e (ascii "quot") _ d (unfold utf8 utf8_behind forms begun in refl) (omega arith) t q)
    (λ _. chosen (λ z. z ≡ S.Some d) (same e (ascii "#39")) _ _ (λ t q. entity_one e (ascii "#39") _ d (unfold utf8 utf8_behind forms begun in refl) (omega arith) t q)
    (λ _ q. no_entity d q)))))

pub run_is : {p : ℕ → Bool} {s w r : Bytes} → Run p s w r → s ≡ w ++ r
run_is (run_ends e) = refl
run_is (run_on {c} u q) = ap (λ (z : Bytes). c ∷ z) (run_is q)

module _ (p : ℕ → Bool) (small : (c : ℕ) → T (not (p c)) → c < 0x80) where
  decoded_end : (s : Bytes) → Ends p s → (rs : List Range) → High rs → utf8_behind rs s ≡ true → (utf8_behind rs [] ≡ true) × Whole s
  unfolding Ends
  decoded_end s n [] h e = (unfold utf8_behind in refl, unfold utf8 in e)
  decoded_end [] n (g ∷ rs) h e = absurd (false≢true (unfold utf8_behind in e))
  decoded_end (c ∷ s) n (g ∷ rs) h e = ascii_first c g rs s (small c n) h e

  decoded_behind : {s w r : Bytes} → Decoded p s w r → (rs : List Range) → High rs → utf8_behind rs s ≡ true → (utf8_behind rs w ≡ true) × Whole r
  unfolding utf8
  decoded_behind (decoded_ends {s} n) rs h e = decoded_end s n rs h e
  decoded_behind (decoded_on {c} {s} {w} {r} u n q) rs h e = step c s w (Whole r) (decoded_behind q) rs h e
  decoded_behind (entity {s} {d = d} q i k) (g ∷ rs) h e = ascii_first 38 g rs s (omega arith) h e
  decoded_behind (entity {s} {e = f} {s'} {w} {r} {d} q i k) [] h e =
      let a = entity_ascii f d i in
      let b : Whole s = skip_ascii 38 s (omega arith) e in
      let c : Whole (59 ∷ s') = sym (ap utf8 (run_is q) ∙ a.0 (59 ∷ s')) ∙ b in
      let x = decoded_behind k [] h (skip_ascii 59 s' (omega arith) c) in
      (utf8_cons d w a.1 ∙ x.0, x.1)

  pub decoded_utf8 : {s w r : Bytes} → Decoded p s w r → Whole s → Whole w × Whole r
  unfolding utf8 High
  decoded_utf8 q e = decoded_behind q [] tt e

text_small : (c : ℕ) → T (not (text_byte c)) → c < 0x80
unfolding text_byte
text_small c t = on₁ (or_cases (eqb c 60 || eqb c 62 || eqb c 123) (eqb c 125) (not_not_is (eqb c 60 || eqb c 62 || eqb c 123 || eqb c 125) t))
  where
    P : ℕ → Type 0
    P d = d < 0x80

    not_not_is : (b : Bool) → T (not (not b)) → T b
    not_not_is true u = tt
    not_not_is false u = absurd u

    on₃ : T (eqb c 60) ⊎ T (eqb c 62) → P c
    on₃ (inl u) = at_eq P c 60 u (omega arith)
    on₃ (inr u) = at_eq P c 62 u (omega arith)

    on₂ : T (eqb c 60 || eqb c 62) ⊎ T (eqb c 123) → P c
    on₂ (inl u) = on₃ (or_cases (eqb c 60) (eqb c 62) u)
    on₂ (inr u) = at_eq P c 123 u (omega arith)

    on₁ : T (eqb c 60 || eqb c 62 || eqb c 123) ⊎ T (eqb c 125) → P c
    on₁ (inl u) = on₂ (or_cases (eqb c 60 || eqb c 62) (eqb c 123) u)
    on₁ (inr u) = at_eq P c 125 u (omega arith)

pub quote_small : (q : ℕ) → T (quote q) → q < 0x80
quote_small q t = quote_is (λ (d : ℕ). d < 0x80) q t (omega arith) (omega arith)

string_small : (q : ℕ) → T (quote q) → (c : ℕ) → T (not (string_byte q c)) → c < 0x80
unfolding string_byte
string_small q t c u = on (eqb c q) refl u
  where
    on : (b : Bool) → eqb c q ≡ b → T (not (not b)) → c < 0x80
    on true i v = subst (λ (z : ℕ). z < 0x80) (sym (eqb→eq c q (subst T (sym i) tt))) (quote_small q t)
    on false i v = absurd v

pub text_utf8 : {s w r : Bytes} → Decoded text_byte s w r → Whole s → Whole w × Whole r
text_utf8 = decoded_utf8 text_byte text_small

pub string_utf8 : (q : ℕ) → T (quote q) → {s w r : Bytes} → Decoded (string_byte q) s w r → Whole s → Whole w × Whole r
string_utf8 q t = decoded_utf8 (string_byte q) (string_small q t)

-- ---- source text

source_is : {s w r : Bytes} → IsSource s w r → s ≡ w ++ r
source_is source_ends = refl
source_is (source_on {c} u p) = ap (λ (z : Bytes). c ∷ z) (source_is p)
source_is (quotes {q} {w = w} {s'} {v} {r} u p k) =
    ap (λ (z : Bytes). q ∷ z) (run_is p ∙ ap (λ (z : Bytes). w ++ (q ∷ z)) (source_is k) ∙ sym (append_assoc w (q ∷ v) r))
source_is (braces {w = w} {s'} {v} {r} p k) =
    ap (λ (z : Bytes). 123 ∷ z) (source_is p ∙ ap (λ (z : Bytes). w ++ (125 ∷ z)) (source_is k) ∙ sym (append_assoc w (125 ∷ v) r))

-- up to the brace, and behind it
pub source_utf8 : {s w r : Bytes} → IsSource s w (125 ∷ r) → Whole s → Whole w × Whole r
source_utf8 {s} {w} {r} p e = split w 125 r (omega arith) (sym (ap utf8 (source_is p)) ∙ e)

-- ---- what is known in braces: its texts are parts of the source text

unfoldable pub KnownUtf8 : Known → Type 0
KnownUtf8 (K.whole n) = Unit {0}
KnownUtf8 (K.minus_whole n) = Unit {0}
KnownUtf8 (K.decimal n p) = Unit {0}
KnownUtf8 (K.minus_decimal n p) = Unit {0}
KnownUtf8 (K.quoted w) = Whole w
KnownUtf8 (K.boolean b) = Unit {0}
KnownUtf8 K.null = Unit {0}
KnownUtf8 (K.other w) = Whole w

is_known : (j k : Known) → KnownUtf8 j → S.Some j ≡ S.Some k → KnownUtf8 k
is_known j k u e = let i : j ≡ k = cc in subst KnownUtf8 i u

unknown : {A : Type 0} (k : Known) → S.None ≡ S.Some k → A
unknown k e = let z : ◌≡◌ {A = ℕ} 0 1 = cc in absurd (omega arith)

either : (x y : S.Option Known) (k : Known) → or_else x y ≡ S.Some k → (x ≡ S.Some k) ⊎ (y ≡ S.Some k)
unfolding or_else
either S.None y k e = inr e
either (S.Some j) y k e = inl e

number_utf8 : (w : Bytes) (plain : ℕ → Known) (pointed : ℕ → ℕ → Known) (k : Known) → ((n : ℕ) → KnownUtf8 (plain n)) → ((n p : ℕ) → KnownUtf8 (pointed n p)) → number_of w plain pointed ≡ S.Some k → KnownUtf8 k
unfolding number_of
number_utf8 w plain pointed k f g =
    chosen (λ z. z ≡ S.Some k) (K.is_whole w) _ _ (λ _ e. is_known (plain (K.value_from 0 w)) k (f (K.value_from 0 w)) e)
    (λ _. chosen (λ z. z ≡ S.Some k) (K.is_decimal w) _ _
    (λ _ e. is_known _ k (g (K.value_from 0 (K.before_point w ++ K.after_point w)) (length (K.after_point w))) e)
    (λ _ e. unknown k e))

string_from_is : (q : ℕ) (v x : Bytes) (k : Known) → string_from q v x ≡ S.Some k → (y : Bytes) × (x ≡ y ++ (q ∷ [])) × (k ≡ K.quoted (v ++ y))
unfolding string_from
string_from_is q v [] k = unknown k
string_from_is q v (c ∷ []) k =
    chosen (λ z. z ≡ S.Some k) (eqb c q) _ _
    (λ t e. let i : K.quoted v ≡ k = cc in ([], ap (λ (z : ℕ). z ∷ []) (eqb→eq c q t), sym i ∙ ap K.quoted (sym (append-nil v))))
    (λ _ e. unknown k e)
string_from_is q v (c ∷ d ∷ w) k =
    chosen (λ z. z ≡ S.Some k) (eqb c q) _ _ (λ _ e. unknown k e)
    (λ _ e.
    let m = string_from_is q (v ++ (c ∷ [])) (d ∷ w) k e in
    (c ∷ m.0, ap (λ (z : Bytes). c ∷ z) m.1, m.2 ∙ ap K.quoted (append_assoc v (c ∷ []) m.0)))

string_of_utf8 : (w : Bytes) (k : Known) → Whole w → string_of w ≡ S.Some k → KnownUtf8 k
unfolding string_of KnownUtf8
string_of_utf8 [] k u = unknown k
string_of_utf8 (c ∷ w) k u =
    chosen (λ z. z ≡ S.Some k) (quote c) _ _
    (λ t e.
    let m = string_from_is c [] w k e in
    let b : Whole (m.0 ++ (c ∷ [])) = ap utf8 (sym m.1) ∙ skip_ascii c w (quote_small c t) u in
    subst KnownUtf8 (sym m.2) (split m.0 c [] (quote_small c t) b).0)
    (λ _ e. unknown k e)

rest_utf8 : (w : Bytes) (k : Known) → Whole w → rest_of w ≡ S.Some k → KnownUtf8 k
unfolding rest_of KnownUtf8
rest_utf8 w k u =
    chosen (λ z. z ≡ S.Some k) (some_byte K.not_read w || (K.digit_or_point (K.unsigned w) && some_byte K.of_a_number w)) _ _ (λ _ e. unknown k e) (λ _ e. is_known (K.other w) k u e)

abbrev signed : Bytes → S.Option Known
signed w = choose (K.has_minus w) (number_of (K.unsigned w) K.minus_whole K.minus_decimal) (number_of w K.whole K.decimal)

signed_utf8 : (w : Bytes) (k : Known) → signed w ≡ S.Some k → KnownUtf8 k
unfolding KnownUtf8
signed_utf8 w k =
    chosen (λ z. z ≡ S.Some k) (K.has_minus w) (number_of (K.unsigned w) K.minus_whole K.minus_decimal) (number_of w K.whole K.decimal)
    (λ _ e. number_utf8 (K.unsigned w) K.minus_whole K.minus_decimal k (λ n. tt) (λ n p. tt) e)
    (λ _ e. number_utf8 w K.whole K.decimal k (λ n. tt) (λ n p. tt) e)

trimmed_utf8 : (w : Bytes) (k : Known) → Whole w → known_trimmed w ≡ S.Some k → KnownUtf8 k
unfolding known_trimmed KnownUtf8
trimmed_utf8 w k u =
    chosen (λ z. z ≡ S.Some k) (same w (ascii "true")) _ _ (λ _ e. is_known (K.boolean true) k tt e)
    (λ _. chosen (λ z. z ≡ S.Some k) (same w (ascii "false")) _ _ (λ _ e. is_known (K.boolean false) k tt e)
    (λ _. chosen (λ z. z ≡ S.Some k) (same w (ascii "null")) _ _ (λ _ e. is_known K.null k tt e)
    (λ _ e. on (either (string_of w) (or_else (signed w) (rest_of w)) k e))))
  where
    last : (signed w ≡ S.Some k) ⊎ (rest_of w ≡ S.Some k) → KnownUtf8 k
    last (inl e) = signed_utf8 w k e
    last (inr e) = rest_utf8 w k u e

    on : (string_of w ≡ S.Some k) ⊎ (or_else (signed w) (rest_of w) ≡ S.Some k) → KnownUtf8 k
    on (inl e) = string_of_utf8 w k u e
    on (inr e) = last (either (signed w) (rest_of w) k e)

pub known_utf8 : (w : Bytes) (k : Known) → Whole w → known_of w ≡ S.Some k → KnownUtf8 k
unfolding known_of utf8 High
known_utf8 w k u e = trimmed_utf8 (trimmed_end w) k (trimmed_behind w [] tt u) e

-- ---- names

letter_small : (c : ℕ) → T (letter c) → c < 0x80
unfolding letter
letter_small c t = on₁ (or_cases ((leb 65 c && leb c 90) || (leb 97 c && leb c 122) || eqb c 95) (eqb c 36) t)
  where
    up_to : (a z : ℕ) → z < 0x80 → T (leb a c && leb c z) → c < 0x80
    up_to a z l u = on (leb a c) u
      where
        on : (b : Bool) → T (b && leb c z) → c < 0x80
        on true v = let k = leb→le c z v in omega arith
        on false v = absurd v

    on₃ : T (leb 65 c && leb c 90) ⊎ T (leb 97 c && leb c 122) → c < 0x80
    on₃ (inl u) = up_to 65 90 (omega arith) u
    on₃ (inr u) = up_to 97 122 (omega arith) u

    on₂ : T ((leb 65 c && leb c 90) || (leb 97 c && leb c 122)) ⊎ T (eqb c 95) → c < 0x80
    on₂ (inl u) = on₃ (or_cases (leb 65 c && leb c 90) (leb 97 c && leb c 122) u)
    on₂ (inr u) = at_eq (λ (d : ℕ). d < 0x80) c 95 u (omega arith)

    on₁ : T ((leb 65 c && leb c 90) || (leb 97 c && leb c 122) || eqb c 95) ⊎ T (eqb c 36) → c < 0x80
    on₁ (inl u) = on₂ (or_cases ((leb 65 c && leb c 90) || (leb 97 c && leb c 122)) (eqb c 95) u)
    on₁ (inr u) = at_eq (λ (d : ℕ). d < 0x80) c 36 u (omega arith)

digit_small : (c : ℕ) → T (digit c) → c < 0x80
unfolding digit
digit_small c t = on (leb 48 c) t
  where
    on : (b : Bool) → T (b && leb c 57) → c < 0x80
    on true v = let k = leb→le c 57 v in omega arith
    on false v = absurd v

name_byte_small : (c : ℕ) → T (name_byte c) → c < 0x80
unfolding name_byte
name_byte_small c t = on₁ (or_cases (letter c || digit c) (eqb c 45) t)
  where
    on₂ : T (letter c) ⊎ T (digit c) → c < 0x80
    on₂ (inl u) = letter_small c u
    on₂ (inr u) = digit_small c u

    on₁ : T (letter c || digit c) ⊎ T (eqb c 45) → c < 0x80
    on₁ (inl u) = on₂ (or_cases (letter c) (digit c) u)
    on₁ (inr u) = at_eq (λ (d : ℕ). d < 0x80) c 45 u (omega arith)

separator_small : (c : ℕ) → T (separator c) → c < 0x80
unfolding separator
separator_small c t = on (or_cases (eqb c 46) (eqb c 58) t)
  where
    on : T (eqb c 46) ⊎ T (eqb c 58) → c < 0x80
    on (inl u) = at_eq (λ (d : ℕ). d < 0x80) c 46 u (omega arith)
    on (inr u) = at_eq (λ (d : ℕ). d < 0x80) c 58 u (omega arith)

run_utf8 : {s w r : Bytes} → Run name_byte s w r → Whole s → Whole r
run_utf8 (run_ends e) u = u
run_utf8 (run_on {c} {s} t q) u = run_utf8 q (skip_ascii c s (name_byte_small c t) u)

ident_utf8 : {s w r : Bytes} → IsIdent s w r → Whole s → Whole r
ident_utf8 (ident {c} {s} t q) u = run_utf8 q (skip_ascii c s (letter_small c t) u)

parts_utf8 : {s r : Bytes} {ps : Name} → IsParts s ps r → Whole s → Whole r
parts_utf8 (no_parts p e) u = spaces_utf8 p u
parts_utf8 (one_part {s₁ = s₁} {d = d} p t q i k) u = parts_utf8 k (ident_utf8 i (spaces_utf8 q (skip_ascii d s₁ (separator_small d t) (spaces_utf8 p u))))

pub name_utf8 : {s r : Bytes} {n : Name} → IsName s n r → Whole s → Whole r
name_utf8 (is_name i k) u = parts_utf8 k (ident_utf8 i u)

-- 01's letters: one that begins a name, then also digits and hyphens
unfoldable pub is_ident : Bytes → Bool
is_ident [] = false
is_ident (c ∷ w) = letter c && each name_byte w

unfoldable pub Idents : Name → Type 0
Idents [] = Unit {0}
Idents (part d w ∷ ps) = T (is_ident w) × Idents ps

run_each : {s w r : Bytes} → Run name_byte s w r → T (each name_byte w)
unfolding each
run_each (run_ends e) = tt
run_each (run_on {c} {w = w} t q) = both (name_byte c) (each name_byte w) t (run_each q)

ident_is : {s w r : Bytes} → IsIdent s w r → T (is_ident w)
unfolding is_ident
ident_is (ident {c} {w = w} t q) = both (letter c) (each name_byte w) t (run_each q)

parts_idents : {s r : Bytes} {ps : Name} → IsParts s ps r → Idents ps
unfolding Idents
parts_idents (no_parts p e) = tt
parts_idents (one_part p t q i k) = (ident_is i, parts_idents k)

pub name_idents : {s r : Bytes} {n : Name} → IsName s n r → Idents n
unfolding Idents
name_idents (is_name i k) = (ident_is i, parts_idents k)
