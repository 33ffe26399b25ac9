-- The grammar's reader as a machine: a state, a step for each byte, an answer at the end. What is open stands in a list. It is proved to answer
-- what the grammar says (proofs/Exact.antt), so it need not be believed. Main definitions: `step`, `outcome`, `answer`.
-- Assumes nothing: these are definitions.
use Rattle.std.specs.Prelude.{ℕ, zero, suc, Bool, List, [], ◌∷◌, ◌++◌, eqb, Option, None, Some}
use Rattle.field.specs.Bytes.{Bytes}
use Rattle.grammar.specs.Signs.{snoc, choose, letter, name_byte, separator, space, text_byte, string_byte, quote, quoted_byte, source_byte, source_start}
use Rattle.grammar.specs.Known.{Known, known_of, entity_of}
use Rattle.grammar.specs.Syntax.{part, Name, tag_name_fits, attribute_name_fits, Tag, tag, Attributes, no_attributes, no_value, string_value, container_value, tag_value, spread_attribute, Children, no_children, text_child, tag_child, empty_child, container_child, spread_child, Expr, tag_expr, known_expr, matched, add_attribute, add_child}

-- an open brace
pub data Braces : Type 0 where
  child_braces : (n : Name) (ps : Attributes) (ks : Children) → Braces  -- a container among the children of n
  spread_child_braces : (n : Name) (ps : Attributes) (ks : Children) → Braces  -- a spread there
  value_braces : (a n : Name) (ps : Attributes) → Braces  -- the value of the attribute a of n
  spread_braces : (n : Name) (ps : Attributes) → Braces  -- a spread among the attributes of n

-- what an inner tag stands in
pub data Frame : Type 0 where
  within : (n : Name) (ps : Attributes) (ks : Children) → Frame
  value_of : (a n : Name) (ps : Attributes) → Frame
  in_braces : Braces → Frame

abbrev pub Stack : Type 0
Stack = List Frame

-- what a name is read for
pub data For : Type 0 where
  for_tag : Stack → For
  for_attribute : (n : Name) (ps : Attributes) → Stack → For
  for_closing : (n : Name) (ps : Attributes) (ks : Children) → Stack → For

-- what an entity stands in
pub data Of : Type 0 where
  of_text : (w : Bytes) (n : Name) (ps : Attributes) (ks : Children) → Stack → Of
  of_string : (q : ℕ) (w : Bytes) (a n : Name) (ps : Attributes) → Stack → Of

pub data State : Type 0 where
  start : State
  opened : Stack → State  -- behind `<`
  in_ident : (m : Name) (d : ℕ) (w : Bytes) → For → State  -- in a part of a name
  behind_ident : (m : Name) → For → State  -- behind a part and white space
  behind_sep : (m : Name) (d : ℕ) → For → State  -- behind `.` or `:` and white space
  in_tag : (n : Name) (ps : Attributes) → Stack → State
  slashed : (n : Name) (ps : Attributes) → Stack → State  -- behind the `/` of `/` `>`
  attribute_named : (a n : Name) (ps : Attributes) → Stack → State  -- behind a name and white space
  equals : (a n : Name) (ps : Attributes) → Stack → State  -- behind `=`
  in_string : (q : ℕ) (w : Bytes) (a n : Name) (ps : Attributes) → Stack → State
  in_entity : (e : Bytes) → Of → State  -- behind `&`
  spread_opened : (n : Name) (ps : Attributes) → Stack → State  -- behind `{` in a tag
  one_point : Braces → Stack → State  -- behind `.`
  two_points : Braces → Stack → State  -- behind `..`
  braces_opened : Braces → Stack → State  -- behind `{` or `...`, and white space
  in_source : (depth : ℕ) (w : Bytes) → Braces → Stack → State
  in_quotes : (q depth : ℕ) (w : Bytes) → Braces → Stack → State
  behind_tag : Tag → Braces → Stack → State  -- behind a tag in braces
  in_children : (n : Name) (ps : Attributes) (ks : Children) → Stack → State
  in_text : (w : Bytes) (n : Name) (ps : Attributes) (ks : Children) → Stack → State
  closing : (n : Name) (ps : Attributes) (ks : Children) → Stack → State  -- behind `<` `/`
  close_named : (m n : Name) (ps : Attributes) (ks : Children) → Stack → State
  done : Tag → State
  refused : State

-- a tag has ended
unfoldable pub closed : Tag → Stack → State
closed t [] = done t
closed t (within n ps ks ∷ K) = in_children n ps (add_child ks (tag_child t)) K
closed t (value_of a n ps ∷ K) = in_tag n (add_attribute ps (tag_value a t)) K
closed t (in_braces h ∷ K) = behind_tag t h K

-- a brace has ended
unfoldable pub filled : Expr → Braces → Stack → State
filled b (child_braces n ps ks) K = in_children n ps (add_child ks (container_child b)) K
filled b (spread_child_braces n ps ks) K = in_children n ps (add_child ks (spread_child b)) K
filled b (value_braces a n ps) K = in_tag n (add_attribute ps (container_value a b)) K
filled b (spread_braces n ps) K = in_tag n (add_attribute ps (spread_attribute b)) K

unfoldable pub filled_if : Option Known → Braces → Stack → State
filled_if None h K = refused
filled_if (Some k) h K = filled (known_expr k) h K

unfoldable pub emptied : Braces → Stack → State
emptied (child_braces n ps ks) K = in_children n ps (add_child ks empty_child) K
emptied (spread_child_braces n ps ks) K = refused
emptied (value_braces a n ps) K = refused
emptied (spread_braces n ps) K = refused

-- a point first in braces
unfoldable pub pointed : Braces → Stack → State
pointed (child_braces n ps ks) K = one_point (spread_child_braces n ps ks) K
pointed (spread_child_braces n ps ks) K = refused
pointed (value_braces a n ps) K = refused
pointed (spread_braces n ps) K = refused

-- `<` `/` stands only among children
unfoldable pub close_of : Stack → State
close_of [] = refused
close_of (within n ps ks ∷ K) = closing n ps ks K
close_of (value_of a n ps ∷ K) = refused
close_of (in_braces h ∷ K) = refused

unfoldable pub brace_ends : ℕ → Bytes → Braces → Stack → State
brace_ends zero w h K = filled_if (known_of w) h K
brace_ends (suc d) w h K = in_source d (snoc w 125) h K

-- an entity has ended
unfoldable pub resumed : Of → ℕ → State
resumed (of_text w n ps ks K) d = in_text (snoc w d) n ps ks K
resumed (of_string q w a n ps K) d = in_string q (snoc w d) a n ps K

unfoldable pub resumed_if : Of → Option ℕ → State
resumed_if x None = refused
resumed_if x (Some d) = resumed x d

unfoldable pub fits : For → Name → Bool
fits (for_tag K) m = tag_name_fits m
fits (for_attribute n ps K) m = attribute_name_fits m
fits (for_closing n ps ks K) m = tag_name_fits m

-- a name has ended
unfoldable pub named : For → Name → State
named (for_tag K) m = in_tag m no_attributes K
named (for_attribute n ps K) m = attribute_named m n ps K
named (for_closing n ps ks K) m = close_named m n ps ks K

unfoldable pub step_tag : Name → Attributes → Stack → ℕ → State
step_tag n ps K c =
    choose (space c) (in_tag n ps K)
    (choose (letter c) (in_ident [] 0 (c ∷ []) (for_attribute n ps K))
    (choose (eqb c 123) (spread_opened n ps K)
    (choose (eqb c 47) (slashed n ps K)
    (choose (eqb c 62) (in_children n ps no_children K) refused))))

unfoldable pub step_attribute_named : Name → Name → Attributes → Stack → ℕ → State
step_attribute_named a n ps K c = choose (eqb c 61) (equals a n ps K) (step_tag n (add_attribute ps (no_value a)) K c)

unfoldable pub step_close_named : Name → Name → Attributes → Children → Stack → ℕ → State
step_close_named m n ps ks K c =
    choose (space c) (close_named m n ps ks K)
    (choose (eqb c 62) (closed (tag n ps ks m) K) refused)

-- the step of `named`
unfoldable pub step_of_named : For → Name → ℕ → State
step_of_named (for_tag K) m c = step_tag m no_attributes K c
step_of_named (for_attribute n ps K) m c = step_attribute_named m n ps K c
step_of_named (for_closing n ps ks K) m c = step_close_named m n ps ks K c

unfoldable pub step_behind : Name → For → ℕ → State
step_behind m x c =
    choose (space c) (behind_ident m x)
    (choose (separator c) (behind_sep m c x)
    (choose (fits x m) (step_of_named x m c) refused))

unfoldable pub step_source : ℕ → Bytes → Braces → Stack → ℕ → State
step_source d w h K c =
    choose (source_byte c) (in_source d (snoc w c) h K)
    (choose (quote c) (in_quotes c d (snoc w c) h K)
    (choose (eqb c 123) (in_source (suc d) (snoc w c) h K)
    (choose (eqb c 125) (brace_ends d w h K) refused)))

unfoldable pub step_children : Name → Attributes → Children → Stack → ℕ → State
step_children n ps ks K c =
    choose (eqb c 38) (in_entity [] (of_text [] n ps ks K))
    (choose (text_byte c) (in_text (c ∷ []) n ps ks K)
    (choose (eqb c 60) (opened (within n ps ks ∷ K))
    (choose (eqb c 123) (braces_opened (child_braces n ps ks) K) refused)))

unfoldable pub step : State → ℕ → State
step start c = choose (eqb c 60) (opened []) refused
step (opened K) c =
    choose (space c) (opened K)
    (choose (letter c) (in_ident [] 0 (c ∷ []) (for_tag K))
    (choose (eqb c 62) (in_children [] no_attributes no_children K)
    (choose (eqb c 47) (close_of K) refused)))
step (in_ident m d w x) c = choose (name_byte c) (in_ident m d (snoc w c) x) (step_behind (m ++ (part d w ∷ [])) x c)
step (behind_ident m x) c = step_behind m x c
step (behind_sep m d x) c =
    choose (space c) (behind_sep m d x)
    (choose (letter c) (in_ident m d (c ∷ []) x) refused)
step (in_tag n ps K) c = step_tag n ps K c
step (slashed n ps K) c =
    choose (space c) (slashed n ps K)
    (choose (eqb c 62) (closed (tag n ps no_children n) K) refused)
step (attribute_named a n ps K) c = step_attribute_named a n ps K c
step (equals a n ps K) c =
    choose (space c) (equals a n ps K)
    (choose (quote c) (in_string c [] a n ps K)
    (choose (eqb c 123) (braces_opened (value_braces a n ps) K)
    (choose (eqb c 60) (opened (value_of a n ps ∷ K)) refused)))
step (in_string q w a n ps K) c =
    choose (eqb c 38) (in_entity [] (of_string q w a n ps K))
    (choose (string_byte q c) (in_string q (snoc w c) a n ps K) (in_tag n (add_attribute ps (string_value a w)) K))
step (in_entity e x) c = choose (eqb c 59) (resumed_if x (entity_of e)) (in_entity (snoc e c) x)
step (spread_opened n ps K) c =
    choose (space c) (spread_opened n ps K)
    (choose (eqb c 46) (one_point (spread_braces n ps) K) refused)
step (one_point h K) c = choose (eqb c 46) (two_points h K) refused
step (two_points h K) c = choose (eqb c 46) (braces_opened h K) refused
step (braces_opened h K) c =
    choose (space c) (braces_opened h K)
    (choose (eqb c 60) (opened (in_braces h ∷ K))
    (choose (eqb c 125) (emptied h K)
    (choose (eqb c 46) (pointed h K)
    (choose (source_start c) (step_source zero [] h K c) refused))))
step (in_source d w h K) c = step_source d w h K c
step (in_quotes q d w h K) c =
    choose (quoted_byte q c) (in_quotes q d (snoc w c) h K)
    (choose (eqb c q) (in_source d (snoc w c) h K) refused)
step (behind_tag t h K) c =
    choose (space c) (behind_tag t h K)
    (choose (eqb c 125) (filled (tag_expr t) h K) refused)
step (in_children n ps ks K) c = step_children n ps ks K c
step (in_text w n ps ks K) c =
    choose (eqb c 38) (in_entity [] (of_text w n ps ks K))
    (choose (text_byte c) (in_text (snoc w c) n ps ks K) (step_children n ps (add_child ks (text_child w)) K c))
step (closing n ps ks K) c =
    choose (space c) (closing n ps ks K)
    (choose (letter c) (in_ident [] 0 (c ∷ []) (for_closing n ps ks K))
    (choose (eqb c 62) (closed (tag n ps ks []) K) refused))
step (close_named m n ps ks K) c = step_close_named m n ps ks K c
step (done t) c = refused
step refused c = refused

pub data Outcome : Type 0 where
  read : Tag → Outcome
  no_reading : Outcome

unfoldable pub at_end : State → Outcome
at_end start = no_reading
at_end (opened K) = no_reading
at_end (in_ident m d w x) = no_reading
at_end (behind_ident m x) = no_reading
at_end (behind_sep m d x) = no_reading
at_end (in_tag n ps K) = no_reading
at_end (slashed n ps K) = no_reading
at_end (attribute_named a n ps K) = no_reading
at_end (equals a n ps K) = no_reading
at_end (in_string q w a n ps K) = no_reading
at_end (in_entity e x) = no_reading
at_end (spread_opened n ps K) = no_reading
at_end (one_point h K) = no_reading
at_end (two_points h K) = no_reading
at_end (braces_opened h K) = no_reading
at_end (in_source d w h K) = no_reading
at_end (in_quotes q d w h K) = no_reading
at_end (behind_tag t h K) = no_reading
at_end (in_children n ps ks K) = no_reading
at_end (in_text w n ps ks K) = no_reading
at_end (closing n ps ks K) = no_reading
at_end (close_named m n ps ks K) = no_reading
at_end (done t) = read t
at_end refused = no_reading

unfoldable pub outcome : State → Bytes → Outcome
outcome x [] = at_end x
outcome x (c ∷ s) = outcome (step x c) s

-- what the text is answered
pub data Answer : Type 0 where
  taken : Tag → Answer
  refused_14 : Answer
  refused_15 : Answer

unfoldable pub judged : Outcome → Answer
judged (read t) = choose (matched t) (taken t) refused_15
judged no_reading = refused_14

unfoldable pub answer : Bytes → Answer
answer s = judged (outcome start s)
