use Rattle.std.proofs.Common.{◌∙◌, sym}
use Rattle.pws_look.proofs.Ended.{some_told, none_told, none_written}
use Rattle.pws_look.proofs.top.look_main.Goals as goal

pub returns-in-Some-clause-told : goal.returns-in-Some-clause-told
returns-in-Some-clause-told g c =
    some_told _ c.in-Some.command (g.S.Source.left c.args.source.now) (g.K.Sink.held c.args.sink.now) (g.K.Sink.held c.end.new.sink) c.look.result c.end.result
    (sym c.command_of.ensures ∙ c.in-Some.is) c.look.ensures.told c.end.ensures.ends

pub returns-in-None-clause-told : goal.returns-in-None-clause-told
returns-in-None-clause-told g c =
    none_told _ (g.S.Source.left c.args.source.now) (g.K.Sink.held c.args.sink.now) (g.K.Sink.held c.written.new.sink) c.written.result
    (sym c.command_of.ensures ∙ c.in-None.is) c.written.ensures.held

pub returns-in-None-clause-written : goal.returns-in-None-clause-written
returns-in-None-clause-written g c = none_written (g.K.Sink.held c.args.sink.now) (g.K.Sink.held c.written.new.sink) c.written.result c.written.ensures.held
