-- `utf8::skip_words` meets its contract. Assumes nothing.
use mathlib.Core.Path.{sym, ◌∙◌}
use Rattle.utf8.proofs.Places.{skips_none, skips_blocks, skips_last}
use Rattle.utf8.proofs.skip_words.Goals as goal

pub returns-in_default : goal.returns-in_default
returns-in_default c = skips_none _

pub returns-then-not-is_ascii : goal.returns-then-not-is_ascii
returns-then-not-is_ascii c = skips_none _

pub returns-in-Some-last_chunk : goal.returns-in-Some-last_chunk
returns-in-Some-last_chunk c =
    let s = c.in-Some.ensures.cases in let t = c.in-Some-last_chunk.ensures.cases in
    skips_last (skips_blocks s.0 s.1 (sym c.is_ascii.ensures ∙ c.if-not-is_ascii.false) c.skip_blocks.ensures c.skip_blocks-left.ensures) c.if-left-lt8.true t.0 t.1.same (sym c.is_ascii-then-left-lt8.ensures ∙ c.if-is_ascii.true)

pub returns-in_default-last_chunk : goal.returns-in_default-last_chunk
returns-in_default-last_chunk c = let s = c.in-Some.ensures.cases in skips_blocks s.0 s.1 (sym c.is_ascii.ensures ∙ c.if-not-is_ascii.false) c.skip_blocks.ensures c.skip_blocks-left.ensures

pub returns-in_default-last_chunk-2 : goal.returns-in_default-last_chunk-2
returns-in_default-last_chunk-2 c = let s = c.in-Some.ensures.cases in skips_blocks s.0 s.1 (sym c.is_ascii.ensures ∙ c.if-not-is_ascii.false) c.skip_blocks.ensures c.skip_blocks-left.ensures
