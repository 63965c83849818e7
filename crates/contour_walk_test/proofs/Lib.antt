mod BoundHoles
