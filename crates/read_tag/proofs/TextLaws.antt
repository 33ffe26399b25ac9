-- Runs of text and of strings, a stretch or an entity further, and where they end. Main statements: `entity_read_as`, `entity_unread`, `entity_none`,
-- `decoding_plain`, `decoding_entity`, `decoding_ends`, `text_ends`, `string_closes`. Assumes nothing.
use Prim.Native.Nat.{ℕ, zero, suc, ◌+◌, ◌-◌, ◌≤◌, ◌<◌}
use mathlib.Core.Path.{◌≡◌, refl, sym, ◌∙◌, ap, subst}
use mathlib.Core.Bool.{Bool, true, false, ◌&&◌, not}
use mathlib.Core.List.{[], ◌∷◌, ◌++◌, append-nil, append_assoc}
use native.Mathlib.Omega.{arith}
use borrow.Author.Tests.{leb-true, leb-false}
use lib.Dec.{T, leb, eqb, eqb→eq, not_T}
use lib.ListN.{length, take, drop, get_or, length-append, length-drop, drop_of_length-le}
use lib.Seq.{length-take-le, get_or-drop}
use Rattle.std.specs.Prelude.{Option, None, Some}
use Rattle.field.specs.Bytes.{Bytes, ascii, same}
use Rattle.field.specs.Put.{head, Wrote}
use Rattle.field.proofs.PutLaws.{wrote_none, wrote_then, wrote_length, wrote_behind}
use Rattle.names.proofs.CompareLaws.{same_other}
use Rattle.grammar.specs.Signs.{snoc, choose, text_byte, string_byte, entity_byte, quote}
use Rattle.grammar.specs.Known.{entity_of}
use Rattle.grammar.specs.Syntax.{Name, Attributes, string_value, Children, text_child, add_attribute, add_child}
use Rattle.grammar.specs.Grammar.{Ends, Run, run_ends, run_on}
use Rattle.grammar.specs.Reader.{Stack, Of, of_text, of_string, State, in_tag, in_string, in_entity, in_children, in_text, resumed, resumed_if, no_reading, at_end, step, step_children, outcome}
use Rattle.grammar.proofs.Tests.{chose, passed, clash, no_text_no_amp}
use Rattle.grammar.proofs.Complete.{go, through, entity_read, entity_ends, refused_never, string_ends}
use Rattle.read_tag.specs.Runs.{Ran, plain_text, plain_string}
use Rattle.read_tag.specs.Texts.{run_byte, plain, Signed, holding, running, Entered, Decoded, Decodes, TextRead, StringRead}
use Rattle.read_tag.specs.declared.texts.Around.{Around}
use Rattle.read_tag.specs.declared.texts.Around.TheVariants.{Tags, Quotes}
use Rattle.read_tag.specs.declared.texts.Run as Answer
use Rattle.read_tag.specs.declared.texts.Entity.{Entity}
use Rattle.read_tag.proofs.RunLaws.{next, Front, front_none, front_on, Running, running_none, running_on, ran_stops, ran_out}

-- ---- tests

pub other : (c e : ℕ) → (c ≡ e → ⊥) → T (not (eqb c e))
other c e n = not_T (eqb c e) (λ t. n (eqb→eq c e t))

both_not : (a b : Bool) → T (not (a && b)) → T b → T (not a)
both_not true true t u = t
both_not true false t u = absurd u
both_not false b t u = tt

fst_of : (a b : Bool) → T (a && b) → T a
fst_of true b t = tt
fst_of false b t = absurd t

snd_of : (a b : Bool) → T (a && b) → T b
snd_of true b t = t
snd_of false b t = absurd t

double : (b : Bool) → T (not (not b)) → T b
double true t = tt
double false t = absurd t

-- ---- entities

-- the five have at most four bytes
none_long : (e : Bytes) → 5 ≤ length e → entity_of e ≡ None
unfolding entity_of
none_long e h =
    passed (same e (ascii "amp")) _ _ (differs (ascii "amp") (λ z. omega arith)) ∙
    passed (same e (ascii "lt")) _ _ (differs (ascii "lt") (λ z. omega arith)) ∙
    passed (same e (ascii "gt")) _ _ (differs (ascii "gt") (λ z. omega arith)) ∙
    passed (same e (ascii "quot")) _ _ (differs (ascii "quot") (λ z. omega arith)) ∙
    passed (same e (ascii "#39")) _ _ (differs (ascii "#39") (λ z. omega arith))
  where
    differs : (w : Bytes) → (length e ≡ length w → ⊥) → T (not (same e w))
    differs w n = subst (λ (z : Bool). T (not z)) (sym (same_other e w n)) tt

-- a name that is long already stays long
long_by : (x : Of) (c : ℕ) (s e : Bytes) → 5 ≤ length e → ((v : Bytes) → 5 ≤ length v → outcome (in_entity v x) s ≡ no_reading) → (b : Bool) → outcome (choose b (resumed_if x (entity_of e)) (in_entity (snoc e c) x)) s ≡ no_reading
unfolding choose
long_by x c s e h f true = ap (λ (z : Option ℕ). outcome (resumed_if x z) s) (none_long e h) ∙ (unfold resumed_if in refused_never s)
long_by x c s e h f false = f (snoc e c) (omega (arith, length-append e (c ∷ [])))

long_never : (x : Of) (s e : Bytes) → 5 ≤ length e → outcome (in_entity e x) s ≡ no_reading
unfolding outcome step
long_never x [] e h = unfold at_end in refl
long_never x (c ∷ s) e h = long_by x c s e h (long_never x s) (eqb c 59)

entity_front : (x : Of) {s w r : Bytes} → Front entity_byte s w r → (v : Bytes) → outcome (in_entity v x) s ≡ outcome (in_entity (v ++ w) x) r
unfolding entity_byte
entity_front x (front_none {s}) v = ap (λ (z : Bytes). outcome (in_entity z x) s) (sym (append-nil v))
entity_front x (front_on {c} {s} {w} {r} t f) v =
    go (in_entity v x) (in_entity (snoc v c) x) c s (unfold step in passed (eqb c 59) _ _ t) ∙
    entity_front x f (snoc v c) ∙
    ap (λ (z : Bytes). outcome (in_entity z x) r) (append_assoc v (c ∷ []) w)

module _ (s : Bytes) (i : ℕ) where
  entity_on : (k : ℕ) → Running entity_byte s i k → k < length s → (get_or s k 0 ≡ 59 → ⊥) → Running entity_byte s i (k + 1)
  unfolding entity_byte
  entity_on k u h n = running_on entity_byte s i k u h (other (get_or s k 0) 59 n)

  -- no `;` within five bytes
  entity_long : (k : ℕ) → Running entity_byte s i k → k < length s → (get_or s k 0 ≡ 59 → ⊥) → 4 ≤ k - i → Entered s i None
  unfolding Entered
  entity_long k u h n l x =
      let v = entity_on k u h n in
      entity_front x v.front [] ∙ long_never x (drop (k + 1) s) v.read (omega (arith, v.counted, u.after))

  entity_out : (k : ℕ) → Running entity_byte s i k → length s ≤ k → Entered s i None
  unfolding Entered
  entity_out k u l x =
      let r = ran_out entity_byte s i k u l in
      entity_read x r.run ∙ ap (outcome (in_entity (take (k - i) (drop i s)) x)) (drop_of_length-le s l) ∙ (unfold outcome at_end in refl)

  module _ (k : ℕ) (u : Running entity_byte s i k) (h : k < length s) (e : get_or s k 0 ≡ 59) where
    named : (x : Of) → outcome (in_entity [] x) (drop i s) ≡ outcome (resumed_if x (entity_of (take (k - i) (drop i s)))) (drop (k + 1) s)
    named x =
        let r = ran_stops entity_byte s i k u h (unfold entity_byte in subst (λ (z : ℕ). T (not (not (eqb z 59)))) (sym e) tt) in
        entity_read x r.run ∙
        ap (outcome (in_entity (take (k - i) (drop i s)) x)) (next s k h ∙ ap (λ (z : ℕ). z ∷ drop (k + 1) s) e) ∙
        entity_ends x (take (k - i) (drop i s)) (drop (k + 1) s)

    entity_unknown : (d : Option ℕ) → d ≡ entity_of (take (k - i) (drop i s)) → d ≡ None → Entered s i None
    unfolding Entered
    entity_unknown d f z x =
        named x ∙ ap (λ (g : Option ℕ). outcome (resumed_if x g) (drop (k + 1) s)) (sym f ∙ z) ∙ (unfold resumed_if in refused_never (drop (k + 1) s))

    entity_found : (o : Option ℕ) {d : ℕ} → o ≡ entity_of (take (k - i) (drop i s)) → o ≡ Some d → Entered s i (Some record { code = d; end = k + 1 })
    unfolding Entered
    entity_found o {d} f n = (
      omega (arith, u.after),
      omega arith,
      λ x. named x ∙ ap (λ (g : Option ℕ). outcome (resumed_if x g) (drop (k + 1) s)) (sym f ∙ n) ∙ (unfold resumed_if in refl),
    )

-- by what stands behind the `&`, w
module _ (s : Bytes) (i : ℕ) (w : Bytes) (e : w ≡ drop i s) (l : i ≤ length s) where
  size : i + length w ≡ length s
  size = omega (arith, ap length e, length-drop i s)

  at_place : (k : ℕ) → get_or s (i + k) 0 ≡ get_or w k 0
  at_place k = sym (ap (λ (v : Bytes). get_or v k 0) e ∙ get_or-drop i s k 0)

  -- no `;` among n bytes
  entity_run : (n : ℕ) → n ≤ length w → ((k : ℕ) → k < n → get_or w k 0 ≡ 59 → ⊥) → Running entity_byte s i (i + n)
  entity_run zero m h = let z : i ≡ i + 0 = omega arith in subst (Running entity_byte s i) z (running_none entity_byte s i l)
  entity_run (suc n) m h =
      let z : i + n + 1 ≡ i + suc n = omega arith in
      subst (Running entity_byte s i) z
      (entity_on s i (i + n) (entity_run n (omega arith) (λ k a. h k (omega arith))) (omega (arith, size)) (λ f. h n (omega arith) (sym (at_place n) ∙ f)))

  pub entity_none : ((k : ℕ) → k < 5 → k < length w → get_or w k 0 ≡ 59 → ⊥) → Entered s i None
  entity_none h = on (leb (length w) 4) refl
    where
      on : (b : Bool) → leb (length w) 4 ≡ b → Entered s i None
      on true f =
          let m : length w ≤ 4 = leb-true (length w) 4 f in
          entity_out s i (i + length w) (entity_run (length w) (omega arith) (λ k a. h k (omega arith) a)) (omega (arith, size))
      on false f =
          let m : 4 < length w = leb-false (length w) 4 f in
          entity_long s i (i + 4) (entity_run 4 (omega arith) (λ k a. h k (omega arith) (omega arith))) (omega (arith, size)) (λ g. h 4 (omega arith) (omega arith) (sym (at_place 4) ∙ g)) (omega arith)

  -- the first `;` is behind n bytes
  module _ (n : ℕ) (m : n < length w) (f : get_or w n 0 ≡ 59) (h : (k : ℕ) → k < n → get_or w k 0 ≡ 59 → ⊥) (o : Option ℕ) (g : o ≡ entity_of (take (i + n - i) (drop i s))) where
    pub entity_unread : o ≡ None → Entered s i None
    entity_unread z = entity_unknown s i (i + n) (entity_run n (omega arith) h) (omega (arith, size)) (at_place n ∙ f) o g z

    pub entity_read_as : {d : ℕ} → o ≡ Some d → Entered s i (Some record { code = d; end = i + n + 1 })
    entity_read_as z = entity_found s i (i + n) (entity_run n (omega arith) h) (omega (arith, size)) (at_place n ∙ f) o g z

pub entity_further : (s : Bytes) (i : ℕ) {e : Entity} (r : Option Entity) → Entered s i r → r ≡ Some e → (i < e.end) × (e.end ≤ length s)
unfolding Entered
entity_further s i {e} r y z =
    let m : Entered s i (Some e) = subst (Entered s i) z y in
    (m.0, m.1)

-- ---- runs

-- a byte up to an entity keeps the reader in its run; `&` begins an entity; an entity that has ended leads back
plain_step : (q : Around) (x : Of) → Signed q x → (w : Bytes) (c : ℕ) → T (plain q c) → step (running (holding x w)) c ≡ running (holding x (snoc w c))
unfolding Signed holding running step plain plain_text plain_string
plain_step Tags (of_text v n ps ks K) e w c t =
    passed (eqb c 38) _ _ (snd_of (text_byte c) (not (eqb c 38)) t) ∙ chose (text_byte c) _ _ (fst_of (text_byte c) (not (eqb c 38)) t)
plain_step Tags (of_string p v a n ps K) e w c t = absurd e
plain_step (Quotes q) (of_text v n ps ks K) e w c t = absurd e
plain_step (Quotes q) (of_string p v a n ps K) e w c t =
    let u : T (string_byte p c && not (eqb c 38)) = subst (λ (z : ℕ). T (string_byte z c && not (eqb c 38))) e.0 t in
    passed (eqb c 38) _ _ (snd_of (string_byte p c) (not (eqb c 38)) u) ∙ chose (string_byte p c) _ _ (fst_of (string_byte p c) (not (eqb c 38)) u)

entity_begins : (x : Of) (w : Bytes) → step (running (holding x w)) 38 ≡ in_entity [] (holding x w)
unfolding holding running step choose
entity_begins (of_text v n ps ks K) w = refl
entity_begins (of_string p v a n ps K) w = refl

entity_over : (x : Of) (w : Bytes) (d : ℕ) → resumed (holding x w) d ≡ running (holding x (snoc w d))
unfolding holding running resumed
entity_over (of_text v n ps ks K) w d = refl
entity_over (of_string p v a n ps K) w d = refl

pub run_end : {p : ℕ → Bool} {x w r : Bytes} → Run p x w r → Ends p r
run_end (run_ends e) = e
run_end (run_on t y) = run_end y

-- where a stretch ends and no entity stands, the run ends
no_plain : (q : Around) (c : ℕ) → T (not (eqb c 38)) → T (not (plain q c)) → T (not (run_byte q c))
unfolding plain run_byte plain_text plain_string
no_plain Tags c m t = both_not (text_byte c) (not (eqb c 38)) t m
no_plain (Quotes q) c m t = both_not (string_byte q c) (not (eqb c 38)) t m

-- what the loop knows at k, with o' written up to b
pub record Decoding (q : Around) (s : Bytes) (i : ℕ) (o : Bytes) (at k : ℕ) (o' : Bytes) (b : ℕ) : Type 0 where
  pub inside : k ≤ length s
  pub text : Bytes
  pub leads : (x : Of) → Signed q x → outcome (running (holding x [])) (drop i s) ≡ outcome (running (holding x text)) (drop k s)
  pub wrote : Wrote o at text o' b
  pub short : i + length text ≤ k

module _ (q : Around) (s : Bytes) (i : ℕ) (o : Bytes) (at : ℕ) where
  pub decoding_none : i ≤ length s → Decoding q s i o at i o at
  decoding_none h = record { inside = h; text = []; leads = λ x e. refl; wrote = wrote_none o at; short = omega arith }

  -- a stretch up to an entity
  pub decoding_plain : {o₁ o₂ : Bytes} {k e a b : ℕ} → Decoding q s i o at k o₁ a → Ran (plain q) s k e → Wrote o₁ a (take (e - k) (drop k s)) o₂ b → Decoding q s i o at e o₂ b
  decoding_plain {o₁} {o₂} {k} {e} {a} {b} u r v =
      let w : Bytes = take (e - k) (drop k s) in
      let n : length w ≡ e - k = length-take-le (e - k) (drop k s) (omega (arith, length-drop k s, r.inside, r.after)) in
      record {
        inside = r.inside;
        text = u.text ++ w;
        leads = λ x h. u.leads x h ∙ through (plain q) (λ z. running (holding x z)) (λ z. running (holding x z)) (λ z c t. refl) (λ z. refl) (λ z c t. plain_step q x h z c t) r.run u.text;
        wrote = wrote_then u.wrote v;
        short = omega (arith, u.short, n, r.after, length-append u.text w);
      }

  module _ {o₁ : Bytes} {k a : ℕ} (u : Decoding q s i o at k o₁ a) where
    module _ (h : k < length s) (e : get_or s k 0 ≡ 38) where
      opens : (x : Of) → Signed q x → outcome (running (holding x [])) (drop i s) ≡ outcome (in_entity [] (holding x u.text)) (drop (k + 1) s)
      opens x g =
          u.leads x g ∙
          ap (outcome (running (holding x u.text))) (next s k h ∙ ap (λ (z : ℕ). z ∷ drop (k + 1) s) e) ∙
          go (running (holding x u.text)) (in_entity [] (holding x u.text)) 38 (drop (k + 1) s) (entity_begins x u.text)

      pub decoding_entity : {o₂ : Bytes} {y : Entity} {b : ℕ} (r : Option Entity) → Entered s (k + 1) r → r ≡ Some y → Wrote o₁ a (y.code ∷ []) o₂ b → Decoding q s i o at y.end o₂ b
      unfolding Entered
      decoding_entity {o₂} {y} {b} r x z v =
          let m : Entered s (k + 1) (Some y) = subst (Entered s (k + 1)) z x in
          let m₀ = m.0 in
          record {
            inside = m.1;
            text = snoc u.text y.code;
            leads = λ x g. opens x g ∙ m.2 (holding x u.text) ∙ ap (λ (t : State). outcome t (drop y.end s)) (entity_over x u.text y.code);
            wrote = wrote_then u.wrote v;
            short = omega (arith, m₀, u.short, length-append u.text (y.code ∷ []));
          }

      pub decoding_barred : (r : Option Entity) → Entered s (k + 1) r → r ≡ None → Decodes q s i o at o₁ None
      unfolding Decodes Entered
      decoding_barred r y z =
          let m : Entered s (k + 1) None = subst (Entered s (k + 1)) z y in
          (wrote_length u.wrote, λ x g. opens x g ∙ m (holding x u.text))

    ended : Ends (run_byte q) (drop k s) → Decodes q s i o at o₁ (Some record { end = k; at = a })
    unfolding Decodes
    ended e = record { text = u.text; inside = u.inside; stops = e; leads = u.leads; wrote = u.wrote; short = u.short }

    pub decoding_out : length s ≤ k → Decodes q s i o at o₁ (Some record { end = k; at = a })
    unfolding Ends
    decoding_out l = ended (subst (Ends (run_byte q)) (sym (drop_of_length-le s l)) tt)

    pub decoding_ends : {j : ℕ} → Ran (plain q) s j k → k < length s → (get_or s k 0 ≡ 38 → ⊥) → Decodes q s i o at o₁ (Some record { end = k; at = a })
    unfolding Ends
    decoding_ends r h n =
        let t : T (not (plain q (get_or s k 0))) = subst (Ends (plain q)) (next s k h) (run_end r.run) in
        ended (subst (Ends (run_byte q)) (sym (next s k h)) (no_plain q (get_or s k 0) (other (get_or s k 0) 38 n) t))

-- ---- a text child

text_begins : (c : ℕ) → T (text_byte c) → (n : Name) (ps : Attributes) (ks : Children) (K : Stack) → step (in_children n ps ks K) c ≡ step (in_text [] n ps ks K) c
unfolding step step_children
text_begins c t n ps ks K = ap (choose (eqb c 38) (in_entity [] (of_text [] n ps ks K))) (chose (text_byte c) (in_text (c ∷ []) n ps ks K) _ t ∙ sym (chose (text_byte c) (in_text (c ∷ []) n ps ks K) _ t))

text_leaves : (z w : Bytes) → Ends text_byte z → (n : Name) (ps : Attributes) (ks : Children) (K : Stack) → outcome (in_text w n ps ks K) z ≡ outcome (in_children n ps (add_child ks (text_child w)) K) z
unfolding Ends outcome
text_leaves [] w e n ps ks K = unfold at_end in refl
text_leaves (c ∷ z) w e n ps ks K =
    ap (λ (x : State). outcome x z) (unfold step in passed (eqb c 38) _ _ (no_text_no_amp c e) ∙ passed (text_byte c) _ _ e)

module _ (s : Bytes) (i : ℕ) (o : Bytes) (at : ℕ) (o₁ : Bytes) (h : i < length s) (t : text_byte (get_or s i 0) ≡ true) where
  as_text : (n : Name) (ps : Attributes) (ks : Children) (K : Stack) → outcome (in_children n ps ks K) (drop i s) ≡ outcome (in_text [] n ps ks K) (drop i s)
  unfolding outcome
  as_text n ps ks K =
      ap (outcome (in_children n ps ks K)) (next s i h) ∙
      ap (λ (x : State). outcome x (drop (i + 1) s)) (text_begins (get_or s i 0) (subst T (sym t) tt) n ps ks K) ∙
      ap (outcome (in_text [] n ps ks K)) (sym (next s i h))

  pub text_barred : (r : Option Answer.Run) → Decodes Tags s i o (at + 3) o₁ r → r ≡ None → TextRead s i o at o₁ None
  unfolding TextRead Decodes running holding Signed
  text_barred r d z =
      let m : Decodes Tags s i o (at + 3) o₁ None = subst (Decodes Tags s i o (at + 3) o₁) z d in
      (m.0, λ n ps ks K. as_text n ps ks K ∙ m.1 (of_text [] n ps ks K) tt)

  moved : {e : ℕ} → Ends text_byte (drop e s) → e ≡ i → ⊥
  unfolding Ends
  moved {e} x z = clash (text_byte (get_or s i 0)) (subst T (sym t) tt) (subst (Ends text_byte) (ap (λ (k : ℕ). drop k s) z ∙ next s i h) x)

  pub text_ends : {o₂ : Bytes} {t : Answer.Run} {m : ℕ} (r : Option Answer.Run) → Decodes Tags s i o (at + 3) o₁ r → r ≡ Some t → Wrote o₁ at (head 0x60 (t.at - (at + 3))) o₂ m → TextRead s i o at o₂ (Some t)
  unfolding TextRead Decodes run_byte running holding Signed
  text_ends {o₂} {t} {m} r d z v =
      let y : Decoded Tags s i t.end o (at + 3) o₁ t.at = subst (Decodes Tags s i o (at + 3) o₁) z d in
      let x : Ends text_byte (drop t.end s) = y.stops in
      let g : t.end ≡ i → ⊥ = moved x in
      record {
        text = y.text;
        after = omega (arith, y.short);
        inside = y.inside;
        short = y.short;
        leads = λ n ps ks K. as_text n ps ks K ∙ y.leads (of_text [] n ps ks K) tt ∙ text_leaves (drop t.end s) y.text x n ps ks K;
        wrote = wrote_behind 0x60 refl y.wrote v;
      }

-- the head's place
pub decoded_length : (q : Around) (s : Bytes) (i : ℕ) (o : Bytes) (at : ℕ) (o₁ : Bytes) {t : Answer.Run} (r : Option Answer.Run) → Decodes q s i o at o₁ r → r ≡ Some t → (at ≤ t.at) × (t.end ≤ length s)
unfolding Decodes
decoded_length q s i o at o₁ {t} r d z =
    let y : Decoded q s i t.end o at o₁ t.at = subst (Decodes q s i o at o₁) z d in
    (omega (arith, y.wrote.end_is), y.inside)

-- ---- a string of an attribute

module _ (q : ℕ) (s : Bytes) (i : ℕ) (o : Bytes) (at : ℕ) (o₁ : Bytes) (t : quote q ≡ true) where
  quoted : T (quote q)
  quoted = subst T (sym t) tt

  pub string_barred : (r : Option Answer.Run) → Decodes (Quotes q) s i o (at + 3) o₁ r → r ≡ None → StringRead q s i o at o₁ None
  unfolding StringRead Decodes running holding Signed
  string_barred r d z =
      let m : Decodes (Quotes q) s i o (at + 3) o₁ None = subst (Decodes (Quotes q) s i o (at + 3) o₁) z d in
      (m.0, λ a n ps K. m.1 (of_string q [] a n ps K) (refl, quoted))

  module _ {y : Answer.Run} (r : Option Answer.Run) (d : Decodes (Quotes q) s i o (at + 3) o₁ r) (z : r ≡ Some y) where
    whole : Decoded (Quotes q) s i y.end o (at + 3) o₁ y.at
    unfolding Decodes
    whole = subst (Decodes (Quotes q) s i o (at + 3) o₁) z d

    runs : (a n : Name) (ps : Attributes) (K : Stack) → outcome (in_string q [] a n ps K) (drop i s) ≡ outcome (in_string q whole.text a n ps K) (drop y.end s)
    unfolding running holding Signed
    runs a n ps K = whole.leads (of_string q [] a n ps K) (refl, quoted)

    -- the text ends in it
    pub string_open : length s ≤ y.end → StringRead q s i o at o₁ None
    unfolding StringRead
    string_open l = (wrote_length whole.wrote, λ a n ps K. runs a n ps K ∙ ap (outcome (in_string q whole.text a n ps K)) (drop_of_length-le s l) ∙ (unfold outcome at_end in refl))

    at_quote : y.end < length s → get_or s y.end 0 ≡ q
    unfolding Ends run_byte string_byte
    at_quote l =
        let c : ℕ = get_or s y.end 0 in
        let x : T (not (string_byte q c)) = subst (Ends (run_byte (Quotes q))) (next s y.end l) whole.stops in
        eqb→eq c q (double (eqb c q) x)

    pub string_closes : {o₂ : Bytes} {m : ℕ} → y.end < length s → Wrote o₁ at (head 0x51 (y.at - (at + 3))) o₂ m → StringRead q s i o at o₂ (Some record { end = y.end + 1; at = y.at })
    unfolding StringRead
    string_closes l v =
        record {
          text = whole.text;
          after = omega (arith, whole.short);
          inside = omega arith;
          short = omega (arith, whole.short);
          leads = λ a n ps K.
              runs a n ps K ∙
              ap (outcome (in_string q whole.text a n ps K)) (next s y.end l ∙ ap (λ (c : ℕ). c ∷ drop (y.end + 1) s) (at_quote l)) ∙
              go (in_string q whole.text a n ps K) (in_tag n (add_attribute ps (string_value a whole.text)) K) q (drop (y.end + 1) s) (string_ends q whole.text a n ps K quoted);
          wrote = wrote_behind 0x51 refl whole.wrote v;
        }
