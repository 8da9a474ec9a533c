use Rattle.std.proofs.Common.{refl}
use Rattle.dd_invol.proofs.ImageCells.{read_image, is_chamber}
use Rattle.dd_invol.proofs.cells.image_of.Goals as goal

pub returns-clause-image : goal.returns-clause-image
returns-clause-image c = read_image c.args.size c.args.images.now c.args.i c.args.chamber c.place_of.result _ c.requires.chamber.0 c.requires.chamber.1 c.place_of.ensures.place refl

pub returns-clause-chamber : goal.returns-clause-chamber
returns-clause-chamber c =
    is_chamber c.args.size c.args.images.now c.args.i c.args.chamber _ c.requires.involutions c.requires.chamber
    (read_image c.args.size c.args.images.now c.args.i c.args.chamber c.place_of.result _ c.requires.chamber.0 c.requires.chamber.1 c.place_of.ensures.place refl)
