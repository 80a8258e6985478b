use Rattle.std.proofs.Common.{◌≡◌, [], ◌∷◌, replicate, vec_items, sym, subst, ap, ◌∙◌, rules}
use Rattle.disk.specs.Contents.{torn}
use Rattle.disks.specs.Lookup.{at}
use Rattle.disks.specs.Lists.{blanks, blanks_alone}
use Rattle.disks.proofs.memory_disk.MemoryDisk.new.Goals as goal

pub returns : goal.returns
returns g c =
    let slot = g.B.Slot in
    let laws = g.met.B.Slot.laws in
    let n = c.args.count in
    let filled : vec_items c.in_ok-blocks.blocks ≡ replicate n slot.blank =
    c.in_ok-blocks.ensures.items_if_clones_equal (λ y e. g.met.B.Slot.copied y (subst (λ x. g.B.Clone.is_clone x y) c.blank.ensures e) ∙ sym c.blank.ensures) ∙ ap (replicate n) c.blank.ensures in (
      search rules,
      record {
        counted = c.in_ok-blocks.ensures.len;
        zeros = ap (at slot.latest torn) filled ∙ blanks laws n;
        alone = ap (at slot.possible (torn ∷ [])) filled ∙ blanks_alone laws n;
      },
    )
