-- What 000 makes of texts, names and numbers is UTF-8 where they are. Main statements: `jsx_text_stays`, `normalize_stays`, `name_text`,
-- `attr_name_text`, `render_text`, `serialized_text`. Assumes nothing.
use Prim.Native.Nat.{ℕ, ◌+◌, ◌<◌}
use native.Mathlib.Omega.{arith}
use mathlib.Core.Path.{◌≡◌, refl, sym, ◌∙◌, subst}
use mathlib.Core.Bool.{Bool, true, false, ◌&&◌, ◌||◌}
use mathlib.Core.List.{List, [], ◌∷◌, ◌++◌, map}
use lib.Dec.{T, leb, eqb}
use borrow.Author.Tests.{leb-true, lt-ltb, eqb-true}
use Rattle.std.proofs.Math.Facts.{and_yes}
use Rattle.field.specs.Bytes.{Bytes, pick, same, null?}
use Rattle.field.specs.Bytes as B
use Rattle.utf8.specs.Utf8.{utf8, utf8_behind, all_ascii}
use Rattle.utf8.proofs.Laws.{utf8_append, utf8_cons, ascii_utf8}
use Rattle.text.specs.Lines.{lines}
use Rattle.text.specs.Trim.{trim_start}
use Rattle.text.specs.Escape.{escape_html}
use Rattle.text.specs.Text.{trimmed, some_line, trimmed_lines, kept, spaced, joined, escape_if, jsx_text_to_str, normalize_lit_str}
use Rattle.text.proofs.DecimalLaws.{decimal_each}
use Rattle.text.proofs.PlacesLaws.{shortest_each}
use Rattle.names.specs.Names as N
use Rattle.names.specs.Names.{AttrName, capital, small_letter, small_letters, parted, hyphenated_names, kept_names, renamed, rename_in, normalize_dom_attr_name, get_attr_name}
use Rattle.page.specs.Check.{name_part, name_parts, is_name}
use Rattle.page.specs.Limits.{AttrNameOk}
use Rattle.page.specs.Number.{Number, whole, scaled, at_most_15, render}
use Rattle.spec.specs.Attributes.{serialize_attr}
use Rattle.spec.proofs.Markup.{name_has_parts, name_front}
use Rattle.spec.proofs.Characters.{Text, AllText, lines_text, escape_text, trim_start_stays, trim_end_stays}

pub text_append : (a b : Bytes) → Text a → Text b → Text (a ++ b)
text_append a b g h = utf8_append a b g ∙ h

pub text_cons : (c : ℕ) (b : Bytes) → c < 0x80 → Text b → Text (c ∷ b)
text_cons c b l h = utf8_cons c b l ∙ h

pub text_nil : Text []
unfolding utf8 utf8_behind
text_nil = refl

-- ---- text runs and attribute strings

trimmed_stays : (front back : Bool) (l : Bytes) → Text l → Text (trimmed front back l)
unfolding trimmed
trimmed_stays true true l h = trim_end_stays (trim_start l) (trim_start_stays l h)
trimmed_stays true false l h = trim_start_stays l h
trimmed_stays false true l h = trim_end_stays l h
trimmed_stays false false l h = h

lines_trimmed : (front last : Bool) (ls : List Bytes) → AllText ls → AllText (trimmed_lines front last ls)
unfolding trimmed_lines AllText
lines_trimmed front last [] h = tt
lines_trimmed front last (l ∷ ls) h = (trimmed_stays front (some_line ls || last) l h.0, lines_trimmed true last ls h.1)

lines_kept : (ls : List Bytes) → AllText ls → AllText (kept ls)
unfolding kept AllText
lines_kept [] h = tt
lines_kept (l ∷ ls) h = on (null? l) (lines_kept ls h.1)
  where
    on : (b : Bool) → AllText (kept ls) → AllText (pick b (kept ls) (l ∷ kept ls))
    on true k = k
    on false k = (h.0, k)

spaced_text : (ls : List Bytes) → AllText ls → Text (spaced ls)
unfolding spaced AllText
spaced_text [] h = text_nil
spaced_text (l ∷ ls) h = text_cons 32 (l ++ spaced ls) (omega arith) (text_append l (spaced ls) h.0 (spaced_text ls h.1))

joined_text : (ls : List Bytes) → AllText ls → Text (joined ls)
unfolding joined AllText
joined_text [] h = text_nil
joined_text (l ∷ ls) h = text_append l (spaced ls) h.0 (spaced_text ls h.1)

pub jsx_text_stays : (t : Bytes) (escape last : Bool) → Text t → Text (jsx_text_to_str t escape last)
unfolding jsx_text_to_str escape_if
jsx_text_stays t escape last h =
    let k : Text (joined (kept (trimmed_lines false last (lines t)))) = joined_text (kept (trimmed_lines false last (lines t))) (lines_kept (trimmed_lines false last (lines t)) (lines_trimmed false last (lines t) (lines_text t h))) in
    on escape k
  where
    on : (e : Bool) → Text (joined (kept (trimmed_lines false last (lines t)))) → Text (pick e (escape_html (joined (kept (trimmed_lines false last (lines t))))) (joined (kept (trimmed_lines false last (lines t)))))
    on true k = escape_text (joined (kept (trimmed_lines false last (lines t)))) k
    on false k = k

fronts_text : (ls : List Bytes) → AllText ls → AllText (map trim_start ls)
unfolding AllText
fronts_text [] h = tt
fronts_text (l ∷ ls) h = (trim_start_stays l h.0, fronts_text ls h.1)

pub normalize_stays : (t : Bytes) → Text t → Text (normalize_lit_str t)
unfolding normalize_lit_str
normalize_stays t h = joined_text (map trim_start (lines t)) (fronts_text (lines t) (lines_text t h))

-- ---- names

low_part : (c : ℕ) → T (name_part c) → c < 0x80
low_part c h = on (leb 65 c) refl (leb c 90) refl (leb 97 c) refl (leb c 122) refl (eqb c 95) refl (eqb c 36) refl (leb 48 c) refl (leb c 57) refl (eqb c 45) refl h
  where
    on : (a : Bool) → leb 65 c ≡ a → (b : Bool) → leb c 90 ≡ b → (d : Bool) → leb 97 c ≡ d → (e : Bool) → leb c 122 ≡ e → (f : Bool) → eqb c 95 ≡ f → (g : Bool) → eqb c 36 ≡ g → (i : Bool) → leb 48 c ≡ i → (j : Bool) → leb c 57 ≡ j → (k : Bool) → eqb c 45 ≡ k →
        T ((((a && b) || (d && e)) || f || g) || (i && j) || k) → c < 0x80
    on a p true q d r e s f t g u i v j w k x h = omega (arith, leb-true c 90 q)
    on a p b q d r true s f t g u i v j w k x h = omega (arith, leb-true c 122 s)
    on a p b q d r e s true t g u i v j w k x h = omega (arith, eqb-true c 95 t)
    on a p b q d r e s f t true u i v j w k x h = omega (arith, eqb-true c 36 u)
    on a p b q d r e s f t g u i v true w k x h = omega (arith, leb-true c 57 w)
    on a p b q d r e s f t g u i v j w true x h = omega (arith, eqb-true c 45 x)
    on true p false q true r false s false t false u true v false w false x h = absurd h
    on true p false q true r false s false t false u false v false w false x h = absurd h
    on true p false q false r false s false t false u true v false w false x h = absurd h
    on true p false q false r false s false t false u false v false w false x h = absurd h
    on false p false q true r false s false t false u true v false w false x h = absurd h
    on false p false q true r false s false t false u false v false w false x h = absurd h
    on false p false q false r false s false t false u true v false w false x h = absurd h
    on false p false q false r false s false t false u false v false w false x h = absurd h

-- ASCII, byte by byte
unfoldable Low : Bytes → Type 0
Low [] = Unit {0}
Low (c ∷ cs) = (c < 0x80) × Low cs

low_ascii : (b : Bytes) → Low b → all_ascii b ≡ true
unfolding Low all_ascii
low_ascii [] h = refl
low_ascii (c ∷ b) h = rw (lt-ltb c 0x80 h.0) (low_ascii b h.1)

low_text : (b : Bytes) → Low b → Text b
low_text b h = ascii_utf8 b (low_ascii b h)

low_append : (a b : Bytes) → Low a → Low b → Low (a ++ b)
unfolding Low
low_append [] b g h = h
low_append (c ∷ a) b g h = (g.0, low_append a b g.1 h)

low_parts : (n : Bytes) → T (name_parts n) → Low n
unfolding Low
low_parts [] h = tt
low_parts (c ∷ n) h = let f = name_front c n h in (low_part c f.part, low_parts n f.rest)

low_name : (n : Bytes) → T (is_name n) → Low n
low_name n h = low_parts n (name_has_parts n h)

pub name_text : (n : Bytes) → T (is_name n) → Text n
name_text n h = low_text n (low_name n h)

pub two_names_text : (n m : Bytes) → T (is_name n) → T (is_name m) → Text (n ++ (58 ∷ m))
two_names_text n m g h = text_append n (58 ∷ m) (name_text n g) (text_cons 58 m (omega arith) (name_text m h))

small_low : (c : ℕ) → c < 0x80 → small_letter c < 0x80
unfolding small_letter
small_low c h = on (leb 65 c) (leb c 90) refl
  where
    on : (a b : Bool) → leb c 90 ≡ b → pick (a && b) (c + 32) c < 0x80
    on true true q = omega (arith, leb-true c 90 q)
    on true false q = h
    on false b q = h

small_letters_low : (n : Bytes) → Low n → Low (small_letters n)
unfolding Low small_letters
small_letters_low [] h = tt
small_letters_low (c ∷ n) h = (small_low c h.0, small_letters_low n h.1)

parted_low : (n : Bytes) → Low n → Low (parted 45 n)
unfolding Low parted
parted_low [] h = tt
parted_low (c ∷ n) h = on (leb 65 c) (leb c 90) refl (parted_low n h.1)
  where
    on : (a b : Bool) → leb c 90 ≡ b → Low (parted 45 n) → Low (pick (a && b) (45 ∷ (c + 32) ∷ parted 45 n) (c ∷ parted 45 n))
    on true true q k = (omega arith, (omega (arith, leb-true c 90 q), k))
    on true false q k = (h.0, k)
    on false b q k = (h.0, k)

-- what the names that are singled out become
unfoldable renamed_low : List (Bytes × Bytes) → Bool
renamed_low [] = true
renamed_low (p ∷ ps) = all_ascii p.1 && renamed_low ps

rename_text : (ps : List (Bytes × Bytes)) (n other : Bytes) → renamed_low ps ≡ true → Text other → Text (rename_in ps n other)
unfolding rename_in renamed_low
rename_text [] n other h g = g
rename_text (p ∷ ps) n other h g =
    let k = and_yes (all_ascii p.1) (renamed_low ps) (subst T (sym h) tt) in
    on (same n p.0) (rename_text ps n other (is k.1) g) (is k.0)
  where
    is : {b : Bool} → T b → b ≡ true
    is {b = true} t = refl
    is {b = false} t = absurd t

    on : (b : Bool) → Text (rename_in ps n other) → all_ascii p.1 ≡ true → Text (pick b p.1 (rename_in ps n other))
    on true k a = ascii_utf8 p.1 a
    on false k a = k

normalized_text : (n : Bytes) → Low n → Text (normalize_dom_attr_name n)
unfolding normalize_dom_attr_name renamed renamed_low all_ascii
normalized_text n h = rename_text renamed n _ refl (on (B.among n hyphenated_names) (B.among n kept_names))
  where
    on : (a b : Bool) → Text (pick a (parted 45 n) (pick b n (small_letters n)))
    on true b = low_text (parted 45 n) (parted_low n h)
    on false true = low_text n h
    on false false = low_text (small_letters n) (small_letters_low n h)

pub attr_name_text : (d : ℕ) (n : AttrName) (norm : Bool) → AttrNameOk d n → Text (get_attr_name n norm)
unfolding get_attr_name AttrNameOk
attr_name_text d (N.ident n) true h = normalized_text n (low_name n h.1)
attr_name_text d (N.ident n) false h = name_text n h.1
attr_name_text d (N.namespaced n m) norm h = normalized_text (n ++ (58 ∷ m)) (colon n m (low_name n h.2) (low_name m h.3))
  where
    colon : (n m : Bytes) → Low n → Low m → Low (n ++ (58 ∷ m))
    colon n m g h = low_append n (58 ∷ m) g (unfold Low in (omega arith, h))

-- ---- an attribute with its value

pub serialized_text : (n v : Bytes) → Text n → Text v → Text (serialize_attr n v)
unfolding serialize_attr
serialized_text n v g h =
    text_cons 32 _ (omega arith)
    (text_append (escape_html n) (61 ∷ 34 ∷ (escape_html v ++ (34 ∷ []))) (escape_text n g)
    (text_cons 61 _ (omega arith) (text_cons 34 _ (omega arith) (text_append (escape_html v) (34 ∷ []) (escape_text v h) (text_cons 34 [] (omega arith) text_nil)))))

-- ---- numbers

pub render_text : (n : Number) → Text (render n)
unfolding render
render_text (whole n) = decimal_each Text (λ k b l h. text_cons (48 + k) b (omega arith) h) text_nil n
render_text (scaled n p) = shortest_each Text (λ k b l h. text_cons (48 + k) b (omega arith) h) (λ b h. text_cons 46 b (omega arith) h) text_nil n (at_most_15 p)
