use Rattle.orders.proofs.block.Block.+first.Given as goal

-- the bits left
abbrev pub decreases-first : goal.decreases-first
decreases-first g l = l.self.now.left
