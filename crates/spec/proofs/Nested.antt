-- Markup in pieces: what is nested however it is filled. Main statements: `neutral_element`, `neutral_void`, `sound_pieces`; those about
-- texts with neither sign are in Free.antt. Assumes nothing.
use Prim.Native.Nat.{ℕ, suc}
use mathlib.Core.Path.{◌≡◌, refl, sym, ◌∙◌, ap, ap₂, subst}
use mathlib.Core.Bool.{Bool, true, false}
use mathlib.Core.List.{List, [], ◌∷◌, ◌++◌, append_assoc, append-nil}
use lib.Dec.{T, eqb}
use lib.ListN.{length}
use Rattle.field.specs.Bytes.{Bytes}
use Rattle.names.specs.Names.{is_void_element}
use Rattle.page.specs.Check.{is_name}
use Rattle.spec.specs.Words.{Reading, outside, inside_tag, Comparison, compared, open_tag, read_byte, read_markup, WellNestedBy, free, inside_opening_tag, places_after, filled, Fits, AllFit}
use Rattle.spec.proofs.Good.{Piece, literal, hole, piece_strings, piece_kinds, ends_spaced, Spaced, Sound}
use Rattle.spec.proofs.Markup.{read_append, read_free_outside, read_free_inside, read_nested, end_named_tag, read_closing_tag, name_has_parts, name_free, space_first, space_first_append}
use Rattle.spec.proofs.Place.{Spot, out_of_tags, in_opening, spot_after, inside, spot_append, spot_inside, spot_free, spot_name, spot_closing_tag}
pub use Rattle.spec.proofs.Free.{free_nested, free_append, escape_free, escape_name, text_free, render_free, boolean_free, void_compared, unmixed_compared, attr_free}

-- ---- pieces are read, and their holes are placed

-- the pieces, filled in every fitting way and read from m on, end in a reading of which Q holds
abbrev pub Leads : Comparison → List Piece → Reading → (Reading → Type 0) → Type 0
Leads how [] m Q = Q m
Leads how (literal b ∷ ps) m Q = Leads how ps (read_markup how m b) Q
Leads how (hole k ∷ ps) m Q = (f : Bytes) → Fits how k f → Leads how ps (read_markup how m f) Q

-- the literals lead from one place to another, and each hole lies inside an opening tag or not as its kind says
abbrev pub Placed : List Piece → Spot → Spot → Type 0
Placed [] z y = z ≡ y
Placed (literal b ∷ ps) z y = Placed ps (spot_after z b) y
Placed (hole k ∷ ps) z y = (inside z ≡ k) × Placed ps z y

-- a space comes right before each hole inside an opening tag
abbrev pub HolesSpaced : Bool → List Piece → Type 0
HolesSpaced z [] = Unit {0}
HolesSpaced z (literal b ∷ ps) = HolesSpaced (ends_spaced z b) ps
HolesSpaced z (hole k ∷ ps) = (T k → T z) × HolesSpaced z ps

-- content: from outside tags, with whatever names open, back to the same, however its holes are filled; its holes lie outside opening tags
pub record Neutral (ps : List Piece) : Type 0 where
  pub leads : (how : Comparison) (ns : List Bytes) → Leads how ps (outside ns) (λ m. m ≡ outside ns)
  pub placed : Placed ps out_of_tags out_of_tags
  pub spaced : (z : Bool) → HolesSpaced z ps

-- inside a tag of that name, with nothing or a space right behind the name
pub record InTagOf (ns : List Bytes) (n : Bytes) (m : Reading) : Type 0 where
  pub behind : Bytes
  pub spaced : T (space_first behind)
  pub reads : m ≡ inside_tag ns (n ++ behind)

-- what stands in an opening tag behind its name: texts that begin with a space, and holes behind a space, which lie inside it
pub record InTag (ps : List Piece) : Type 0 where
  pub leads : (how : Comparison) (ns : List Bytes) (n t : Bytes) → T (space_first t) → Leads how ps (inside_tag ns (n ++ t)) (InTagOf ns n)
  pub placed : Placed ps in_opening in_opening
  pub spaced : (z : Bool) → HolesSpaced z ps

leads_append : (how : Comparison) (ps qs : List Piece) (m : Reading) (Q R : Reading → Type 0) → Leads how ps m Q → ((k : Reading) → Q k → Leads how qs k R) → Leads how (ps ++ qs) m R
leads_append how [] qs m Q R h g = g m h
leads_append how (literal b ∷ ps) qs m Q R h g = leads_append how ps qs (read_markup how m b) Q R h g
leads_append how (hole k ∷ ps) qs m Q R h g = λ f fits. leads_append how ps qs (read_markup how m f) Q R (h f fits) g

placed_append : (ps qs : List Piece) (z y x : Spot) → Placed ps z y → Placed qs y x → Placed (ps ++ qs) z x
placed_append [] qs z y x h g = rw h g
placed_append (literal b ∷ ps) qs z y x h g = placed_append ps qs (spot_after z b) y x h g
placed_append (hole k ∷ ps) qs z y x h g = (h.0, placed_append ps qs z y x h.1 g)

holes_append : (ps qs : List Piece) (z : Bool) → HolesSpaced z ps → ((y : Bool) → HolesSpaced y qs) → HolesSpaced z (ps ++ qs)
holes_append [] qs z h g = g z
holes_append (literal b ∷ ps) qs z h g = holes_append ps qs (ends_spaced z b) h g
holes_append (hole k ∷ ps) qs z h g = (h.0, holes_append ps qs z h.1 g)

-- ---- content

pub neutral_nil : Neutral []
neutral_nil = record { leads = λ how ns. refl; placed = refl; spaced = λ z. tt }

pub neutral_append : {ps qs : List Piece} → Neutral ps → Neutral qs → Neutral (ps ++ qs)
neutral_append {ps} {qs} p q =
    record {
      leads = λ how ns. leads_append how ps qs (outside ns) (λ m. m ≡ outside ns) (λ m. m ≡ outside ns) (p.leads how ns) (λ k e. rw e (q.leads how ns));
      placed = placed_append ps qs out_of_tags out_of_tags out_of_tags p.placed q.placed;
      spaced = λ z. holes_append ps qs z (p.spaced z) q.spaced;
    }

pub neutral_text : (b : Bytes) → T (free b) → Neutral (literal b ∷ [])
neutral_text b h = record { leads = λ how ns. read_free_outside how ns b h; placed = spot_free out_of_tags (λ slash. refl) b h; spaced = λ z. tt }

pub neutral_hole : Neutral (hole false ∷ [])
unfolding Fits
neutral_hole = record { leads = λ how ns f fits. read_nested how ns f fits; placed = (refl, refl); spaced = λ z. ((λ k. absurd k), tt) }

-- an opening tag, and pieces behind it
opening_leads : (how : Comparison) {as' : List Piece} (n : Bytes) → T (is_name n) → InTag as' → (qs : List Piece) (ns : List Bytes) (Q : Reading → Type 0) →
    Leads how qs (open_tag ns (compared how n)) Q → Leads how (literal (60 ∷ n) ∷ (as' ++ (literal (62 ∷ []) ∷ qs))) (outside ns) Q
unfolding read_markup read_byte space_first
opening_leads how {as'} n h a qs ns Q g =
    subst (λ (m : Reading). Leads how (as' ++ (literal (62 ∷ []) ∷ qs)) m Q)
    (sym (read_free_inside how ns [] n (name_free n (name_has_parts n h)) ∙ ap (inside_tag ns) (sym (append-nil n))))
    (leads_append how as' (literal (62 ∷ []) ∷ qs) (inside_tag ns (n ++ [])) (InTagOf ns n) Q (a.leads how ns n [] tt) behind)
  where
    behind : (k : Reading) → InTagOf ns n k → Leads how (literal (62 ∷ []) ∷ qs) k Q
    behind k e =
        subst (λ (m : Reading). Leads how qs m Q)
        (sym (ap (λ (m : Reading). read_byte how m 62) e.reads ∙ end_named_tag how ns n e.behind h e.spaced))
        g

opening_placed : {as' : List Piece} (n : Bytes) → T (is_name n) → InTag as' → (qs : List Piece) (z : Spot) →
    Placed qs out_of_tags z → Placed (literal (60 ∷ n) ∷ (as' ++ (literal (62 ∷ []) ∷ qs))) out_of_tags z
opening_placed {as'} n h a qs z g =
    subst (λ (y : Spot). Placed (as' ++ (literal (62 ∷ []) ∷ qs)) y z) (sym (spot_name n h))
    (placed_append as' (literal (62 ∷ []) ∷ qs) in_opening in_opening z a.placed g)

pub neutral_void : {as' : List Piece} (n : Bytes) → T (is_name n) → ((how : Comparison) → is_void_element (compared how n) ≡ true) → InTag as' →
    Neutral (literal (60 ∷ n) ∷ (as' ++ (literal (62 ∷ []) ∷ [])))
unfolding open_tag
neutral_void {as'} n h v a =
    record {
      leads = λ how ns. opening_leads how n h a [] ns (λ m. m ≡ outside ns) (rw (v how));
      placed = opening_placed n h a [] out_of_tags refl;
      spaced = λ z. holes_append as' (literal (62 ∷ []) ∷ []) (ends_spaced z (60 ∷ n)) (a.spaced (ends_spaced z (60 ∷ n))) λ y. tt;
    }

pub neutral_element : {as' cs : List Piece} (n : Bytes) → T (is_name n) → ((how : Comparison) → is_void_element (compared how n) ≡ false) → InTag as' → Neutral cs →
    Neutral (literal (60 ∷ n) ∷ (as' ++ (literal (62 ∷ []) ∷ (cs ++ (literal (60 ∷ 47 ∷ (n ++ (62 ∷ []))) ∷ [])))))
unfolding open_tag
neutral_element {as'} {cs} n h v a c =
    record {
      leads = λ how ns. opening_leads how n h a (cs ++ closing) ns (λ m. m ≡ outside ns) (content_leads how ns);
      placed =
          opening_placed n h a (cs ++ closing) out_of_tags
          (placed_append cs closing out_of_tags out_of_tags out_of_tags c.placed (spot_closing_tag n h));
      spaced =
          λ z.
          holes_append as' (literal (62 ∷ []) ∷ (cs ++ closing)) (ends_spaced z (60 ∷ n)) (a.spaced (ends_spaced z (60 ∷ n)))
          λ y. holes_append cs closing (ends_spaced y (62 ∷ [])) (c.spaced (ends_spaced y (62 ∷ []))) λ x. tt;
    }
  where
    closing : List Piece
    closing = literal (60 ∷ 47 ∷ (n ++ (62 ∷ []))) ∷ []

    closing_leads : (how : Comparison) (ns : List Bytes) (k : Reading) → k ≡ outside (compared how n ∷ ns) → Leads how closing k (λ m. m ≡ outside ns)
    closing_leads how ns k e = ap (λ (m : Reading). read_markup how m (60 ∷ 47 ∷ (n ++ (62 ∷ [])))) e ∙ read_closing_tag how ns n h

    content_leads : (how : Comparison) (ns : List Bytes) → Leads how (cs ++ closing) (open_tag ns (compared how n)) (λ m. m ≡ outside ns)
    content_leads how ns =
        subst (λ (m : Reading). Leads how (cs ++ closing) m (λ k. k ≡ outside ns)) (sym opens)
        (leads_append how cs closing (outside (compared how n ∷ ns)) (λ m. m ≡ outside (compared how n ∷ ns)) (λ m. m ≡ outside ns) (c.leads how (compared how n ∷ ns)) (closing_leads how ns))
      where
        opens : open_tag ns (compared how n) ≡ outside (compared how n ∷ ns)
        opens = rw (v how)

-- ---- inside an opening tag

pub in_tag_nil : InTag []
in_tag_nil = record { leads = λ how ns n t h. record { behind = t; spaced = h; reads = refl }; placed = refl; spaced = λ z. tt }

pub in_tag_append : {ps qs : List Piece} → InTag ps → InTag qs → InTag (ps ++ qs)
in_tag_append {ps} {qs} p q =
    record {
      leads =
          λ how ns n t h.
          leads_append how ps qs (inside_tag ns (n ++ t)) (InTagOf ns n) (InTagOf ns n) (p.leads how ns n t h)
          (λ k e. rw e.reads (q.leads how ns n e.behind e.spaced));
      placed = placed_append ps qs in_opening in_opening in_opening p.placed q.placed;
      spaced = λ z. holes_append ps qs z (p.spaced z) q.spaced;
    }

read_spaced : (how : Comparison) (ns : List Bytes) (n t b : Bytes) → T (space_first t) → T (free b) → InTagOf ns n (read_markup how (inside_tag ns (n ++ t)) (32 ∷ b))
unfolding free space_first
read_spaced how ns n t b h f =
    record {
      behind = t ++ (32 ∷ b);
      spaced = space_first_append t (32 ∷ b) h tt;
      reads = read_free_inside how ns (n ++ t) (32 ∷ b) f ∙ ap (inside_tag ns) (append_assoc n t (32 ∷ b));
    }

pub in_tag_text : (b : Bytes) → T (free b) → InTag (literal (32 ∷ b) ∷ [])
in_tag_text b h = record { leads = λ how ns n t s. read_spaced how ns n t b s h; placed = spot_free in_opening (λ slash. refl) b h; spaced = λ z. tt }

pub in_tag_hole : InTag (literal (32 ∷ []) ∷ hole true ∷ [])
unfolding Fits read_markup ends_spaced
in_tag_hole = record { leads = λ how ns n t s f fits. read_spaced how ns n t f s fits; placed = (refl, refl); spaced = λ z. ((λ k. tt), tt) }

-- ---- a template made of such pieces

pieces_one_more : (ps : List Piece) (last : Bytes) → length (piece_strings last ps) ≡ suc (length (piece_kinds ps))
unfolding piece_strings piece_kinds
pieces_one_more [] last = refl
pieces_one_more (literal b ∷ ps) last = pieces_one_more ps (last ++ b)
pieces_one_more (hole k ∷ ps) last = ap suc (pieces_one_more ps [])

-- the strings are never none
places_next : (ps : List Piece) (joined s last : Bytes) →
    places_after joined (s ∷ piece_strings last ps) ≡ inside_opening_tag (joined ++ s) ∷ places_after (joined ++ s) (piece_strings last ps)
unfolding places_after piece_strings
places_next [] joined s last = refl
places_next (literal b ∷ ps) joined s last = places_next ps joined s (last ++ b)
places_next (hole k ∷ ps) joined s last = refl

pieces_placed : (ps : List Piece) (joined last : Bytes) (z : Spot) → Placed ps (spot_after out_of_tags (joined ++ last)) z →
    places_after joined (piece_strings last ps) ≡ piece_kinds ps
unfolding piece_strings piece_kinds places_after
pieces_placed [] joined last z h = refl
pieces_placed (literal b ∷ ps) joined last z h = pieces_placed ps joined (last ++ b) z (rw (← append_assoc joined last b, spot_append) h)
pieces_placed (hole k ∷ ps) joined last z h =
    places_next ps joined last [] ∙
    ap₂ (λ (b : Bool) (bs : List Bool). b ∷ bs) (sym (spot_inside (joined ++ last)) ∙ h.0) (pieces_placed ps (joined ++ last) [] z (rw append-nil h.1))

pieces_read : (how : Comparison) (ps : List Piece) (last : Bytes) (m m' : Reading) → Leads how ps (read_markup how m last) (λ k. k ≡ m') →
    (fs : List Bytes) → AllFit how (piece_kinds ps) fs → read_markup how m (filled (piece_strings last ps) fs) ≡ m'
unfolding AllFit piece_kinds filled piece_strings read_markup
pieces_read how [] last m m' h [] fit = rw append-nil h
pieces_read how [] last m m' h (f ∷ fs) fit = absurd fit
pieces_read how (literal b ∷ ps) last m m' h fs fit = pieces_read how ps (last ++ b) m m' (rw read_append h) fs fit
pieces_read how (hole k ∷ ps) last m m' h [] fit = absurd fit
pieces_read how (hole k ∷ ps) last m m' h (f ∷ fs) fit =
    read_append how m last (f ++ filled (piece_strings [] ps) fs) ∙
    read_append how (read_markup how m last) f (filled (piece_strings [] ps) fs) ∙
    pieces_read how ps [] (read_markup how (read_markup how m last) f) m' (h f fit.0) fs fit.1

spaced_append : (z : Bool) (a b : Bytes) → ends_spaced z (a ++ b) ≡ ends_spaced (ends_spaced z a) b
unfolding ends_spaced
spaced_append z [] b = refl
spaced_append z (c ∷ a) b = spaced_append (eqb c 32) a b

pieces_spaced : (ps : List Piece) (last : Bytes) (z : Bool) → HolesSpaced (ends_spaced z last) ps → Spaced z (piece_strings last ps) (piece_kinds ps)
unfolding piece_strings piece_kinds Spaced ends_spaced
pieces_spaced [] last z h = tt
pieces_spaced (literal b ∷ ps) last z h = pieces_spaced ps (last ++ b) z (subst (λ (y : Bool). HolesSpaced y ps) (sym (spaced_append z last b)) h)
pieces_spaced (hole k ∷ ps) last z h = (h.0, pieces_spaced ps [] (ends_spaced z last) h.1)

pub sound_pieces : (n : ℕ) (ps : List Piece) → Neutral ps → Sound (record { number = n; strings = piece_strings [] ps; kinds = piece_kinds ps })
unfolding WellNestedBy read_markup ends_spaced
sound_pieces n ps h =
    record {
      one_more = pieces_one_more ps [];
      placed = pieces_placed ps [] [] out_of_tags h.placed;
      spaced = pieces_spaced ps [] false (h.spaced false);
      nested = λ how fs fit. pieces_read how ps [] (outside []) (outside []) (h.leads how []) fs fit;
    }
