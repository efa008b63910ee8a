use Rattle.tc_status.proofs.publisher.Publisher.publish.Given as goal

-- the published history is that of the channel
abbrev pub ghosts-store : goal.ghosts-store
ghosts-store g a = record { next = a.channel.now }
