-- Demand 1 of `answer_with`, as `demand/proofs/Ends.antt` has it of the library's calls: whatever it is lent, it is safe, it ends, and then it meets its
-- contract. Statement and proof are the kit's, made of the contract and of the answers. Assumes nothing.
use Rattle.planner.proofs.answer_with.Statement.{statement}
use Rattle.planner.proofs.answer_with.Met.{met}

pub answer_with_spec : {M : Type 1} → statement M
answer_with_spec = met
