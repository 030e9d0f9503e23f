use Rattle.answer_text.proofs.PlainText.{one_answer, same_text}
use Rattle.answer_text.proofs.laws.plain_records_have_one_text.Goals as goal

pub returns : goal.returns
returns c = record {
  answer = λ most t limit q r one other fed also. one_answer most t limit q r one other fed also;
  text = λ most t limit q r a text one other fed also is. same_text most t limit q r one other fed also a text is;
}
