mod LentGraphs
