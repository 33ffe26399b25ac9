-- `text::jsx_text::is_blank_by_lines` meets its contract: `all` asks each line. Assumes nothing.
use Rattle.std.proofs.Common.{rules, tests}
use Rattle.text.proofs.BlankLaws.{all_lines_blank}
use Rattle.text.proofs.jsx_text.is_blank_by_lines.Goals as goal

pub returns : goal.returns
returns c = all_lines_blank c.args.s.now c.args.last _ _ (λ x b q k. search (rules, tests)) c.new.result c.all.new.self _ c.new.ensures c.all.ensures.ran
