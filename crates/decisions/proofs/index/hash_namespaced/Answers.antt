use Rattle.decisions.proofs.IndexLaws.{hash_is, hash_other}
use Rattle.decisions.proofs.index.hash_namespaced.Goals as goal

pub returns-then-namespaced_is : goal.returns-then-namespaced_is
returns-then-namespaced_is c = (hash_is _ _ c.namespaced_is.ensures c.if-namespaced_is.true c.hash_on.ensures.0, c.hash_on.ensures.1)

pub returns : goal.returns
returns c = (hash_other _ _ c.namespaced_is.ensures c.if-namespaced_is.false c.hash_on-a.ensures.0 c.hash_on-b.ensures.0 c.hash_on-2.ensures.0, c.hash_on-2.ensures.1)
