-- `put_namespaced` meets its contract: xlink:href, and all others in small letters on both sides of the colon.
use mathlib.Core.Path.{sym, ap, ◌∙◌}
use Rattle.field.proofs.PutLaws.{wrote_is, wrote_then}
use Rattle.text.specs.Escape.{escape_byte, escape_html}
use Rattle.names.proofs.NamespacedLaws.{namespaced_xlink}
use Rattle.names.proofs.EscapedLaws.{namespaced_escaped}
use Rattle.names.proofs.escaped.put_namespaced.Goals as goal

pub returns-then-is_xlink_href : goal.returns-then-is_xlink_href
unfolding escape_html escape_byte
returns-then-is_xlink_href c = let a = c.args in let e = namespaced_xlink a.ns.now a.name.now (sym c.is_xlink_href.ensures ∙ c.if-is_xlink_href.true) in
    wrote_is (sym (ap escape_html e)) c.put_bytes.ensures

pub returns : goal.returns
returns c = let a = c.args in let e = namespaced_escaped a.ns.now a.name.now (sym c.is_xlink_href.ensures ∙ c.if-is_xlink_href.false) in
    wrote_is (sym e) (wrote_then (wrote_then c.put_small_escaped-a.ensures c.put_byte-b.ensures) c.put_small_escaped.ensures)
