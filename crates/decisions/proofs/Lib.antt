-- Laws of the decisions: `Series` for what stands at the front of bytes, by its tag; `Laws` for what the walks need of elements, values and
-- shapes; and, for each file of the code, what it learns at its returns.
pub mod Series
pub mod AnyLaws
pub mod AttributeLaws
pub mod ExprLaws
pub mod ElementLaws
pub mod Laws
pub mod IndexLaws
pub mod RepeatLaws
pub mod LinkLaws
pub mod BuildLaws
pub mod ChildrenLaws
pub mod BecomesLaws
