use Rattle.std.proofs.Common.{◌≡◌, ◌+◌, Some, None, rules}
use Rattle.std.proofs.lemmas.List.{take_rest}
use Rattle.pieces.specs.Cuts.{piece}
use Rattle.pieces.proofs.CutLaw.{only_cut}
use Rattle.pieces.proofs.Onward.{piece-within, next-pieces}
use Rattle.pieces.proofs.next_piece.Goals as goal

pub returns-then-from-script : goal.returns-then-from-script
returns-then-from-script c =
    let e : None ≡ piece c.args.script.now c.args.at = search rules in
    record { result = e; within = tt; next = next-pieces c.args.script.now c.args.at None e; law = only_cut c.args.script.now }

pub returns : goal.returns
returns c =
    let from = c.skip_gap-from.result in
    let e : Some (record { from = from; end = from + c.piece_len.result }) ≡ piece c.args.script.now c.args.at = search (rules, take_rest) in
    record {
      result = e;
      within = piece-within c.args.script.now c.args.at _ c.requires e;
      next = next-pieces c.args.script.now c.args.at _ e;
      law = only_cut c.args.script.now;
    }
