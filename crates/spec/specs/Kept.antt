-- 02, A9: each 74 and each 79 of an accepted page stands in page out as often as in the page outside four places. Two counts, of page out
-- (`in_row`) and of the page (`in_page`), whose clauses name the places; how much one counts is a parameter, of a 74's body and of a 79's
-- own source pieces. Main definition: `KeptIn`. Assumes nothing: these are definitions.
use Rattle.std.specs.Prelude.{ℕ, ◌+◌, ◌≡◌, Bool, true, false, ◌&&◌, ◌||◌, not, List, [], ◌∷◌, T, eqb, ltb}
use Rattle.field.specs.Bytes.{Bytes, ascii, pick, same, among}
use Rattle.field.specs.Row.{Row, end, loose, field, read}
use Rattle.names.specs.Names.{AttrName, get_attr_name, is_void_element}
use Rattle.page.specs.Page as P
use Rattle.page.specs.Page.{Name, identifier, member, namespaced, Options, Page}
use Rattle.page.specs.Tree.{texts_in, options_in}
use Rattle.spec.specs.Attributes as A
use Rattle.spec.specs.declared.Flags.{Flags}
use Rattle.spec.specs.Pass.{no_flags}
use Rattle.spec.specs.Attributes.{Value, Attribute, is_serializable, is_component, tag_flags}
use Rattle.spec.specs.Transform as F
use Rattle.spec.specs.Answer.{page_given}

-- ---- the places

-- an element or a fragment without a container
abbrev pub is_tag : Value → Bool
is_tag A.absent = false
is_tag (A.string b) = false
is_tag A.empty = false
is_tag (A.container s m) = false
is_tag (A.tag r) = true

abbrev pub has_value : Value → Bool
has_value A.absent = false
has_value (A.string b) = true
has_value A.empty = true
has_value (A.container s m) = true
has_value (A.tag r) = true

abbrev pub listed : Options → AttrName → Bool
listed o n = among (get_attr_name n false) o.skip_prop_serialize

abbrev pub reads_key : Bool → AttrName → Bool
reads_key norm n = same (get_attr_name n norm) (ascii "key")

-- a later attribute from which 000 takes the key, also where it then has none: `key={}`, `key=<i/>`
unfoldable pub key_follows : Bool → List Attribute → Bool
key_follows norm [] = false
key_follows norm (A.attribute n v ∷ as') = (reads_key norm n && has_value v) || key_follows norm as'
key_follows norm (A.spread m ∷ as') = key_follows norm as'

abbrev pub is_void : Name → Bool
is_void (identifier n) = is_void_element n
is_void (member ns) = false
is_void (namespaced n m) = false

-- a 79's own source pieces
unfoldable pub own_pieces : P.Pieces → List Bytes
own_pieces P.no_pieces = []
own_pieces (P.source_piece b ps) = b ∷ own_pieces ps
own_pieces (P.tag_piece t ps) = own_pieces ps

-- what is found of an element by itself, where it is serialized
abbrev pub own_flags : Name → List Attribute → Flags
own_flags (identifier n) as' = tag_flags n as'
own_flags (member ns) as' = no_flags
own_flags (namespaced n m) as' = no_flags

module _ (literal : Bytes → ℕ) (other : List Bytes → ℕ) where
  -- ---- in page out, at any depth

  abbrev pub at_field : ℕ → Bytes → List Bytes → ℕ
  at_field t f bs = pick (eqb t 0x74) (literal f) (pick (eqb t 0x79) (other bs) 0)

  unfoldable pub in_row : Row → ℕ
  in_row end = 0
  in_row (loose b) = 0
  in_row (field t f i r) = at_field t f (texts_in 0x20 i) + (in_row i + in_row r)

-- how much an element counts by itself where it is serialized is one more parameter; A9 counts none (02, A4 and A10 do)
module _ (literal : Bytes → ℕ) (other : List Bytes → ℕ) (own : Flags → ℕ) where
  -- ---- in the page, outside those places

  unfoldable mutual
    -- first place: the children of a serialized void element are lost
    pub in_tag : Options → P.Tag → ℕ
    in_tag o (P.element n as' cs) =
        pick (is_serializable o n (F.attributes o as')) (own (own_flags n (F.attributes o as')) + (in_opening o as' + pick (is_void n) 0 (in_children o cs))) (in_call o (not (is_component n)) as' + in_children o cs)
    in_tag o (P.fragment cs) = in_children o cs

    -- second place, in a serialized element: a value that is a tag without a container is lost, unless the name is listed
    pub in_opening : Options → P.Attributes → ℕ
    in_opening o P.no_attributes = 0
    in_opening o (P.attribute n v as') = pick (not (listed o n) && is_tag (F.value o v)) 0 (in_value o v) + in_opening o as'
    in_opening o (P.spread_attribute e as') = in_expr o e + in_opening o as'

    -- second place, in a call: such a value is lost, listed or not; third place: a key is lost where 000 takes it from a later one
    pub in_call : Options → Bool → P.Attributes → ℕ
    in_call o norm P.no_attributes = 0
    in_call o norm (P.attribute n v as') = pick (is_tag (F.value o v) || (reads_key norm n && key_follows norm (F.attributes o as'))) 0 (in_value o v) + in_call o norm as'
    in_call o norm (P.spread_attribute e as') = in_expr o e + in_call o norm as'

    pub in_value : Options → P.Value → ℕ
    in_value o P.absent = 0
    in_value o (P.string_value b) = 0
    in_value o P.empty_value = 0
    in_value o (P.container_value e) = in_expr o e
    in_value o (P.tag_value t) = in_tag o t

    -- fourth place: a spread child is lost
    pub in_children : Options → P.Children → ℕ
    in_children o P.no_children = 0
    in_children o (P.text_child b cs) = in_children o cs
    in_children o (P.empty_child cs) = in_children o cs
    in_children o (P.container_child e cs) = in_expr o e + in_children o cs
    in_children o (P.tag_child t cs) = in_tag o t + in_children o cs
    in_children o (P.spread_child e cs) = in_children o cs

    pub in_expr : Options → P.Expr → ℕ
    in_expr o (P.string_literal b) = 0
    in_expr o (P.number_literal n) = 0
    in_expr o (P.boolean_literal b) = 0
    in_expr o P.null_literal = 0
    in_expr o (P.other_literal b) = literal b
    in_expr o (P.minus_literal n) = 0
    in_expr o (P.array_literal is) = in_items o is
    in_expr o (P.other_expr ps) = other (own_pieces ps) + in_pieces o ps
    in_expr o (P.tag_expr t) = in_tag o t

    pub in_items : Options → P.Items → ℕ
    in_items o P.no_items = 0
    in_items o (P.item e is) = in_expr o e + in_items o is
    in_items o (P.spread_item e is) = in_expr o e + in_items o is
    in_items o (P.hole_item is) = in_items o is

    pub in_pieces : Options → P.Pieces → ℕ
    in_pieces o P.no_pieces = 0
    in_pieces o (P.source_piece b ps) = in_pieces o ps
    in_pieces o (P.tag_piece t ps) = in_tag o t + in_pieces o ps

  unfoldable pub in_page : Options → Page → ℕ
  in_page o [] = 0
  in_page o (P.export_item ps ∷ is) = in_pieces o ps + in_page o is
  in_page o (P.declaration_item ps ∷ is) = in_pieces o ps + in_page o is
  in_page o (P.statement_item ps ∷ is) = in_pieces o ps + in_page o is
  in_page o (P.empty_item ∷ is) = in_page o is

-- ---- each body and each list of own source pieces, as often

unfoldable pub same_pieces : List Bytes → List Bytes → Bool
same_pieces [] [] = true
same_pieces [] (d ∷ ds) = false
same_pieces (c ∷ cs) [] = false
same_pieces (c ∷ cs) (d ∷ ds) = same c d && same_pieces cs ds

-- 02, A9, the last sentence, of what page out reads as
pub record KeptIn (o : Options) (p : Page) (out : Row) : Type 0 where
  pub literals : (b : Bytes) → in_row (λ c. F.bit (same b c) 1) (λ cs. 0) out ≡ in_page (λ c. F.bit (same b c) 1) (λ cs. 0) (λ f. 0) o p
  pub others : (bs : List Bytes) → in_row (λ c. 0) (λ cs. F.bit (same_pieces bs cs) 1) out ≡ in_page (λ c. 0) (λ cs. F.bit (same_pieces bs cs) 1) (λ f. 0) o p

-- 02, A4: an element that 000 serializes, outside those places, has two attributes of one name; A10: one is void only in small letters
abbrev pub Repeated : Options → Page → Type 0
Repeated o p = T (ltb 0 (in_page (λ c. 0) (λ cs. 0) (λ f. F.bit f.repeated 1) o p))

abbrev pub Mixed : Options → Page → Type 0
Mixed o p = T (ltb 0 (in_page (λ c. 0) (λ cs. 0) (λ f. F.bit f.mixed 1) o p))

-- and of the bytes: the page, its options, and page out up to its written end. 02, A12: counted in the page that is given
unfoldable pub KeptBytes : (page options out : Bytes) → Type 0
KeptBytes page options out = KeptIn (options_in (read options)) (page_given page options) (read out)
