-- What folded expressions mean.
use Rattle.coded_actions.specs.Coded.{expression_of}
use Rattle.ground_meaning.specs.Expressions.{Operand}
use Rattle.ground_meaning.specs.Expressions.Operand.{constant, computed}
use Rattle.folded_terms.specs.declared.operands.CodedOperand.{CodedOperand}
use Rattle.folded_terms.specs.declared.operands.CodedOperand.TheVariants.{Constant, Computed}

abbrev pub operand_of : CodedOperand → Operand
operand_of (Constant c) = constant c
operand_of (Computed g) = computed (expression_of g)
