use Rattle.simple_atoms.proofs.Meets.{form_met, form_value_exact}
use Rattle.simple_atoms.proofs.laws.forms.Goals as goal

pub returns : goal.returns
returns c = record {
  meets = form_met;
  exact = form_value_exact;
}
