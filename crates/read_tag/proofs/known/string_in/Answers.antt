-- `read_tag::known::string_in` meets its contract. Assumes nothing.
use native.Mathlib.Omega.{arith}
use mathlib.Core.Path.{◌∙◌, sym}
use Rattle.read_tag.proofs.KnownLaws.{string_short, string_no_quote, string_unclosed, string_parted, string_stands}
use Rattle.read_tag.proofs.known.string_in.Goals as goal
use Rattle.read_tag.proofs.known.string_in.Goals.{then-not-is_quote-via-then-not-is_quote, then-not-is_quote-via-else-not-is_quote+then-last-first, then-not-is_quote-via-else-not-is_quote+else-last-first+then-contains}

pub returns-in_default-clause-found : goal.returns-in_default-clause-found
returns-in_default-clause-found c = string_short c.args.s.now (omega arith)

pub returns-then-not-is_quote-clause-found : goal.returns-then-not-is_quote-clause-found
returns-then-not-is_quote-clause-found c =
    elim c.then-not-is_quote.branch [
      | then-not-is_quote-via-then-not-is_quote w ↦ string_no_quote c.args.s.now _ c.is_quote.ensures w.if-not-is_quote.true
      | then-not-is_quote-via-else-not-is_quote+then-last-first w ↦ string_unclosed c.args.s.now c.in-len2-up.len_at_least _ c.is_quote.ensures w.if-not-is_quote.false w.if-last-first.true
      | then-not-is_quote-via-else-not-is_quote+else-last-first+then-contains w ↦ string_parted c.args.s.now c.in-len2-up.len_at_least _ c.is_quote.ensures w.if-not-is_quote.false (sym w.contains.ensures.value ∙ w.if-contains.true)
    ]

pub returns-clause-found : goal.returns-clause-found
returns-clause-found c = string_stands c.args.s.now c.in-len2-up.len_at_least _ c.is_quote.ensures c.if-not-is_quote.false c.if-last-first.false (sym c.contains.ensures.value ∙ c.if-contains.false)
