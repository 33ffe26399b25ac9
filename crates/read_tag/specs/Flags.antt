-- How deep the tag is that the grammar's reader is in. Main definition: `depth_of`. Assumes nothing: these are definitions.
use Rattle.std.specs.Prelude.{ℕ, suc, [], ◌∷◌}
use Rattle.grammar.specs.Reader.{Braces, child_braces, spread_child_braces, value_braces, spread_braces, within, value_of, in_braces, Stack}

-- that of the tag which begins there. Around it stand a tag; a tag and a 50; a tag and braces; a tag, a 50 and braces

unfoldable pub braces_depth : Braces → ℕ → ℕ
braces_depth (child_braces n ps ks) d = suc (suc d)
braces_depth (spread_child_braces n ps ks) d = suc (suc d)
braces_depth (value_braces a n ps) d = suc (suc (suc d))
braces_depth (spread_braces n ps) d = suc (suc d)

unfoldable pub depth_of : Stack → ℕ
depth_of [] = 3
depth_of (within n ps ks ∷ K) = suc (depth_of K)
depth_of (value_of a n ps ∷ K) = suc (suc (depth_of K))
depth_of (in_braces h ∷ K) = braces_depth h (depth_of K)
