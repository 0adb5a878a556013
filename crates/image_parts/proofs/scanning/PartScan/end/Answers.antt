use Rattle.image_parts.proofs.Scanned.{scan_found, scan_only, scan_refused}
use Rattle.image_parts.proofs.scanning.PartScan.end.Goals as goal

pub returns-clause-ok : goal.returns-clause-ok
returns-clause-ok c = scan_found c.args.self.now c.find.result c.requires c.find.ensures.ok

pub returns-clause-only : goal.returns-clause-only
returns-clause-only c = scan_only c.args.self.now c.find.result c.requires c.find.ensures.ok
    c.find.ensures.refused

pub returns-clause-refused : goal.returns-clause-refused
returns-clause-refused c = scan_refused c.args.self.now c.find.result c.requires
    c.find.ensures.refused
