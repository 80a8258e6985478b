use Rattle.zone.proofs.Chain.{good}
use Rattle.zone.proofs.Lawful.{law_of}
use Rattle.zone.proofs.table.TableZoneZone.lawful.Goals as goal

pub returns : goal.returns
returns c = let es = c.args.self.now.entries.now in law_of es (good es c.args.self.now.sound)
