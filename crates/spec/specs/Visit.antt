-- visit_mut_expr and visit_mut_children_with: the second pass, and tags that are left. Assumes nothing: these are definitions.
use Rattle.std.specs.Prelude.{true, false, List, [], ◌∷◌}
use Rattle.field.specs.Row.{Row, end, field}
use Rattle.spec.specs.Pass.{Pass, pure, bind, both, raise, Mid, none, node, raw, ◌⧺◌}
use Rattle.spec.specs.Output.{gen_template}
use Rattle.spec.specs.Merge.{Found, nothing_found, one_found, array_found, Child, text, empty, container, element, fragment, spread}
use Rattle.spec.specs.Children.{serialize_jsx, children_to_string, found_pass}

-- visit_mut_expr on each expression of a row
unfoldable pub visit_exprs : Mid → Pass Row
visit_exprs none = pure end
visit_exprs (node t f i r) = both (field t f) (visit_exprs i) (visit_exprs r)
visit_exprs (raw t r) = both ◌⧺◌ t (visit_exprs r)

-- a tag that is left: a 30 stands in the result, and the answer is 10
unfoldable pub leave : Pass Row
leave = raise (record { left = true; long = false; repeated = false; mixed = false }) (pure (field 0x30 [] end end))

-- visit_mut_children_with on an expression that was just put in place: it is not visited itself, so that a tag there is left
unfoldable pub visit_inside : Mid → Pass Row
visit_inside none = pure end
visit_inside (node t f i r) = both (field t f) (visit_exprs i) (visit_exprs r)
visit_inside (raw t r) = leave

-- the end of visit_mut_expr: the second pass right after the first
unfoldable pub visit_after : Pass Mid → Pass Row
visit_after p = bind p visit_inside

-- ---- visit_mut_expr on a fragment

-- a fragment in a fragment: what its children give, or it is left
unfoldable pub visit_found : Found → Pass Row
visit_found nothing_found = leave
visit_found (one_found e) = visit_after (found_pass (one_found e))
visit_found (array_found es) = visit_after (found_pass (array_found es))

unfoldable pub visit_only_child : Child → Pass Row
visit_only_child (text t) = visit_after (gen_template (children_to_string false (text t ∷ [])))
visit_only_child empty = visit_after (gen_template (children_to_string false (empty ∷ [])))
visit_only_child (container s m) = visit_after (gen_template (children_to_string false (container s m ∷ [])))
visit_only_child (element e) = visit_after (serialize_jsx e)
visit_only_child (fragment f) = visit_found f.to_expr
visit_only_child (spread m) = leave

unfoldable pub visit_fragment : List Child → Pass Row
visit_fragment [] = pure (field 0x73 [] end end)
visit_fragment (c ∷ []) = visit_only_child c
visit_fragment (c ∷ c' ∷ cs) = visit_after (gen_template (children_to_string false (c ∷ c' ∷ cs)))
