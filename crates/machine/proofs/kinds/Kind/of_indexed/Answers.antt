use Rattle.machine.proofs.kinds.Kind.of_indexed.Goals as goal

pub returns-in-Move-clause-kind : goal.returns-in-Move-clause-kind
returns-in-Move-clause-kind c = rw c.in-Move.is at c.of_shape.ensures

pub returns-in-BranchOnCharacter-clause-kind : goal.returns-in-BranchOnCharacter-clause-kind
returns-in-BranchOnCharacter-clause-kind c = rw c.in-BranchOnCharacter.is at c.of_shape.ensures
