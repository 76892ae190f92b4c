use Rattle.kernel.proofs.Names.{answer_with}
use Rattle.model.specs.declared.command.Command.TheVariants as command
use Rattle.kernel.proofs.Acts.{acted, caused}
use Rattle.kernel.proofs.Machines.{up_code}
use Rattle.kernel.proofs.serving.invoke.Goals as goal

pub returns-clause-serves : goal.returns-clause-serves
returns-clause-serves g c =
    let l = c.args.live.now in
    let said = c.invoke.ensures in
    let s = c.invoke.new.store in
    acted _ _ _ g.met.D.Device.only_now g.met.S.ObjectStore.sound_holds l s
    (g.met.S.ObjectStore.continues l.store s said.continues) (g.met.S.ObjectStore.failures_are l.store) (g.met.S.ObjectStore.failures_are s)
    c.invoke.new.banks c.invoke.new.age
    (command.Invoke c.args.invocation.now) (answer_with c.invoke.result) said.later said.serves said.counted

pub returns-clause-cause : goal.returns-clause-cause
returns-clause-cause g c =
    let failures = g.met.S.ObjectStore.failures_are in
    caused (failures c.args.live.now.store) (failures c.invoke.new.store) c.invoke.ensures.serves

pub returns-clause-code : goal.returns-clause-code
returns-clause-code g c =
    up_code _ _ _ c.args.live.now c.args.invocation.now c.invoke.result c.invoke.ensures.code

pub invoke-requires-clause-usable : goal.invoke-requires-clause-usable
invoke-requires-clause-usable g c = (g.met.S.ObjectStore.usable_is c.args.live.now.store).1 c.requires.1.store
