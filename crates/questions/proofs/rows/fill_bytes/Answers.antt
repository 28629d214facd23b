-- `questions::rows::fill_bytes` meets its contract. Assumes nothing.
use Rattle.questions.proofs.Runs.{front_filled}
use Rattle.questions.proofs.rows.fill_bytes.Goals as goal

pub returns : goal.returns
returns c =
    let a = c.args in
    front_filled a.s.now a.at a.out.now a.n c.requires.0 c.requires.1 c.copy_front.ensures
